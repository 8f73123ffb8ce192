use Rattle.ep_core.specs.ProgramView as core
use Rattle.endport.specs.CheckView.{proof_asked_for}
use Rattle.endport.proofs.Proving.{proven}
use Rattle.endport.proofs.Runs.{only_of}
use Rattle.endport.proofs.prove.prove_job.Goals as goal

pub returns-in-Ok : goal.returns-in-Ok
returns-in-Ok c =
    proven (proof_asked_for c.args.asked) c.args.source.now (core.program_view c.in-Ok.program) c.sized_types.ensures
    (only_of c.args.asked.model c.args.source.now c.read.result c.in-Ok.program c.in-Ok.is c.read.ensures.means
    c.read.ensures.only c.read.ensures.faultless)
    c.number_reports.ensures.tame c.number_reports.ensures.closed c.number_reports.ensures.straight
    c.number_reports.ensures.mover c.proof_of.result c.proof_of.ensures.status c.proof_of.ensures.report
    c.proof_of.ensures.spells c.proof_of.ensures.portable c.proof_of.ensures.stand
