use Rattle.ep_core.specs.ProgramView.{program_view}
use Rattle.endport.specs.View.{asked_for}
use Rattle.endport.proofs.Runs.{only_of, ran}
use Rattle.endport.proofs.jobs.run_job.Goals as goal

pub returns-in-Ok : goal.returns-in-Ok
returns-in-Ok c =
    ran (asked_for c.args.asked c.args.inputs.now) c.args.source.now (program_view c.in-Ok.program) c.run_of.result
    (only_of c.args.asked.model c.args.source.now c.read.result c.in-Ok.program c.in-Ok.is c.read.ensures.means
    c.read.ensures.only c.read.ensures.faultless)
    c.run_of.ensures.status c.run_of.ensures.text
