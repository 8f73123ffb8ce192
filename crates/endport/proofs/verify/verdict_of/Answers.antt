use Rattle.ep_cert.specs.Certificate.{shown}
use Rattle.ep_core.specs.ProgramView as core
use Rattle.endport.specs.Jobs.{MeansOnly}
use Rattle.endport.proofs.Runs.{only_of}
use Rattle.endport.proofs.Verifying.{heads_of_it, judged, others, short, turned_down}
use Rattle.endport.proofs.verify.verdict_of.Goals as goal

pub read-requires : goal.read-requires
read-requires c = rw (c.deref.ensures.value) (short _ c.requires.spelled.source)

pub judged_on-requires-clause-others : goal.judged_on-requires-clause-others
judged_on-requires-clause-others c = others (shown c.args.cert.now) c.requires.spelled

pub judged_on-requires-clause-heads : goal.judged_on-requires-clause-heads
judged_on-requires-clause-heads c =
    heads_of_it (shown c.args.cert.now) (core.program_view c.in-Ok.program) c.requires.spelled
    (rw (← c.deref.ensures.value) (only_of c.args.cert.now.model c.deref.result.now c.read.result c.in-Ok.program c.in-Ok.is
    c.read.ensures.means c.read.ensures.only c.read.ensures.faultless))

pub returns-in-Ok : goal.returns-in-Ok
returns-in-Ok c =
    judged (shown c.args.cert.now) (core.program_view c.in-Ok.program) c.judged_on.result c.sized_types.ensures
    c.single_numbers.ensures
    (rw (← c.deref.ensures.value) (only_of c.args.cert.now.model c.deref.result.now c.read.result c.in-Ok.program c.in-Ok.is
    c.read.ensures.means c.read.ensures.only c.read.ensures.faultless))
    c.judged_on.ensures.verdict c.judged_on.ensures.portable c.judged_on.ensures.closed

pub returns-in-Err-Refused : goal.returns-in-Err-Refused
returns-in-Err-Refused c =
    turned_down (shown c.args.cert.now) c.deref.result.now c.read.result c.in-Err-Refused.field-0
    c.in-Err-Refused.refusal c.refusal_job.result c.deref.ensures.value c.in-Err-Refused.is
    (rw c.in-Err-Refused.is at c.in-Err-Refused.field-0-is) c.read.ensures.refused c.read.ensures.within
    c.refusal_job.ensures.status c.refusal_job.ensures.text
