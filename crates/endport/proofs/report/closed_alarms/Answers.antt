use Rattle.ep_core.specs.ProgramView as core
use Rattle.ep_flows.specs.View.{orders}
use Rattle.endport.specs.CheckView.{asked_for}
use Rattle.endport.proofs.Reporting.{none_without}
use Rattle.endport.proofs.report.closed_alarms.Goals as goal

pub returns : goal.returns
returns c plain bytes closed steady =
    none_without (asked_for c.args.asked.now) (core.program_view c.args.program.now) plain
    (c.closed_number_reports.ensures (core.program_view c.args.program.now)
    (orders c.args.asked.now.orders.0 c.args.asked.now.orders.1) c.args.program.now.well_formed bytes c.requires
    c.args.asked.now.unroll closed steady)
