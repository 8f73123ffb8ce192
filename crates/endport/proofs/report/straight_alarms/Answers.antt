use Rattle.ep_core.specs.ProgramView as core
use Rattle.ep_flows.specs.View.{orders}
use Rattle.endport.specs.CheckView.{asked_for}
use Rattle.endport.proofs.Reporting.{none_without}
use Rattle.endport.proofs.report.straight_alarms.Goals as goal

pub returns : goal.returns
returns c plain straight little agree =
    none_without (asked_for c.args.asked.now) (core.program_view c.args.program.now) plain
    (c.straight_numbers.ensures.exact (core.program_view c.args.program.now) c.args.program.now.well_formed straight
    (orders c.args.asked.now.orders.0 c.args.asked.now.orders.1) little c.requires c.args.asked.now.unroll _ agree)
