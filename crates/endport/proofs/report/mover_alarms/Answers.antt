use Rattle.ep_core.specs.ProgramView as core
use Rattle.ep_flows.specs.View.{orders}
use Rattle.endport.specs.CheckView.{asked_for}
use Rattle.endport.proofs.Reporting.{none_without}
use Rattle.endport.proofs.report.mover_alarms.Goals as goal

pub returns : goal.returns
returns c plain mover agree =
    none_without (asked_for c.args.asked.now) (core.program_view c.args.program.now) plain
    (c.mover_number_reports.ensures (core.program_view c.args.program.now)
    (orders c.args.asked.now.orders.0 c.args.asked.now.orders.1) c.args.program.now.well_formed mover c.requires agree
    c.args.asked.now.unroll _)
