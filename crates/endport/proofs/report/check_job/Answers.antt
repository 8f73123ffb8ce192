use Rattle.ep_core.specs.ProgramView as core
use Rattle.endport.proofs.Runs.{only_of}
use Rattle.endport.specs.CheckView.{asked_for}
use Rattle.endport.proofs.Reporting.{reported}
use Rattle.endport.proofs.report.check_job.Goals as goal

pub returns-in-Ok : goal.returns-in-Ok
returns-in-Ok c =
    reported (asked_for c.args.asked) c.args.source.now (core.program_view c.in-Ok.program) c.report_on.result
    c.sized_types.ensures
    (only_of c.args.asked.model c.args.source.now c.read.result c.in-Ok.program c.in-Ok.is c.read.ensures.means
    c.read.ensures.only c.read.ensures.faultless)
    c.report_on.ensures.status c.report_on.ensures.text c.report_on.ensures.portable c.report_on.ensures.stand
    c.report_on.ensures.tame c.report_on.ensures.closed c.report_on.ensures.straight c.report_on.ensures.mover
