use Rattle.ep_core.specs.ProgramView as core
use Rattle.ep_flows.specs.View.{orders}
use Rattle.endport.proofs.report.tame_alarms.Goals as goal

pub returns : goal.returns
returns c tame =
    c.number_reports.ensures (core.program_view c.args.program.now)
    (orders c.args.asked.now.orders.0 c.args.asked.now.orders.1) c.args.program.now.well_formed c.model-model.ensures.built
    tame c.requires c.args.asked.now.unroll
