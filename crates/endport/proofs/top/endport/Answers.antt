use Rattle.std.proofs.Common.{◌≡◌, refl, sym, subst, Some}
use Rattle.ep_words.specs.View as view
use Rattle.endport.specs.declared.status.Status.TheVariants.{Usage, ReadFault}
use Rattle.endport.specs.Top.{IsSilent, usage_text}
use Rattle.endport.proofs.Asked.{no_some}
use Rattle.endport.proofs.Ends.{usage_ends, put_ends, stop_ends, put_completes, stop_completes}
use Rattle.endport.proofs.Telling.{written, never_silent, sink_failed, too_long}
use Rattle.endport.proofs.top.endport.Goals as goal

pub returns-in_default-clause-written : goal.returns-in_default-clause-written
returns-in_default-clause-written g c = written _ _ Usage c.put.result usage_text _ _ _ _
    (rw (← c.deref.ensures.value, ← c.in_default.ensures.command) (refl, refl)) c.put.ensures.written

pub returns-in_default-clause-ends : goal.returns-in_default-clause-ends
returns-in_default-clause-ends g c =
    rw (← c.deref.ensures.value, ← c.in_default.ensures.command)
    (usage_ends c.put.result usage_text _ _ _ _ c.put.ensures.written)

pub returns-in_default-clause-to_its_end : goal.returns-in_default-clause-to_its_end
returns-in_default-clause-to_its_end g c =
    rw (← c.deref.ensures.value, ← c.in_default.ensures.command) (λ n w. absurd (no_some n))

pub returns-in_default-clause-complete : goal.returns-in_default-clause-complete
returns-in_default-clause-complete g c = rw (← c.deref.ensures.value, ← c.in_default.ensures.command) tt

pub returns-in-Ok-clause-written : goal.returns-in-Ok-clause-written
returns-in-Ok-clause-written g c =
    rw (← c.deref.ensures.value, ← c.in-Some.ensures.command) (written (Some (view.command c.in-Some.command)) _
    c.in-Ok.job.status c.put-in-Ok.result c.deref-in-Ok.result.now _ _ _ _
    (rw (c.deref-in-Ok.ensures.value) c.in-Ok.ensures.ok) c.put-in-Ok.ensures.written)

pub returns-in-Ok-clause-ends : goal.returns-in-Ok-clause-ends
returns-in-Ok-clause-ends g c =
    rw (← c.deref.ensures.value, ← c.in-Some.ensures.command) (put_ends (view.command c.in-Some.command) _
    c.in-Ok.job.status c.put-in-Ok.result c.in-Ok.job.text.items c.deref-in-Ok.result.now _ _ _ _
    c.in-Ok.ensures.ok c.put-in-Ok.ensures.written)

pub returns-in-Ok-clause-complete : goal.returns-in-Ok-clause-complete
returns-in-Ok-clause-complete g c =
    rw (← c.deref.ensures.value, ← c.in-Some.ensures.command) (put_completes (view.command c.in-Some.command) _
    c.in-Ok.job.status c.put-in-Ok.result c.in-Ok.job.text.items c.deref-in-Ok.result.now _ _ _ _ _
    c.in-Ok.ensures.ok c.put-in-Ok.ensures.written)

pub returns-in-Ok-clause-silent : goal.returns-in-Ok-clause-silent
returns-in-Ok-clause-silent g c = λ s.
    absurd (never_silent (view.command c.in-Some.command) _ c.in-Ok.job.status c.put-in-Ok.result
    c.in-Ok.job.text.items c.deref-in-Ok.result.now _ _ _ _ c.in-Ok.ensures.ok c.put-in-Ok.ensures.written s)

pub returns-in-Ok-clause-read_fault : goal.returns-in-Ok-clause-read_fault
returns-in-Ok-clause-read_fault g c = λ e.
    absurd (never_silent (view.command c.in-Some.command) _ c.in-Ok.job.status c.put-in-Ok.result
    c.in-Ok.job.text.items c.deref-in-Ok.result.now _ _ _ _ c.in-Ok.ensures.ok c.put-in-Ok.ensures.written
    (subst (λ s. IsSilent s) (sym e) tt))

pub returns-in-Ok-clause-write_fault : goal.returns-in-Ok-clause-write_fault
returns-in-Ok-clause-write_fault g c =
    sink_failed (view.command c.in-Some.command) _ c.in-Ok.job.status c.put-in-Ok.result
    c.in-Ok.job.text.items c.deref-in-Ok.result.now _ _ _ _ c.in-Ok.ensures.ok c.put-in-Ok.ensures.written

pub returns-in-Ok-clause-unread : goal.returns-in-Ok-clause-unread
returns-in-Ok-clause-unread g c =
    rw (← c.deref.ensures.value, ← c.in-Some.ensures.command) c.asked_job.ensures.unread

pub returns-in-Ok-clause-to_its_end : goal.returns-in-Ok-clause-to_its_end
returns-in-Ok-clause-to_its_end g c =
    rw (← c.deref.ensures.value, ← c.in-Some.ensures.command) (λ n w. c.in-Ok.ensures.end n)

pub returns-in-Err-clause-always_too_long : goal.returns-in-Err-clause-always_too_long
returns-in-Err-clause-always_too_long g c =
    rw (← c.deref.ensures.value, ← c.in-Some.ensures.command) (too_long _ _ _ _ c.in-Err.status
    c.in-Err.ensures.stop)

pub returns-in-Err-clause-ends : goal.returns-in-Err-clause-ends
returns-in-Err-clause-ends g c =
    rw (← c.deref.ensures.value, ← c.in-Some.ensures.command) (stop_ends (view.command c.in-Some.command) _ _ _ _
    c.in-Err.status c.in-Err.ensures.stop c.in-Err.ensures.memory)

pub returns-in-Err-clause-complete : goal.returns-in-Err-clause-complete
returns-in-Err-clause-complete g c =
    rw (← c.deref.ensures.value, ← c.in-Some.ensures.command) (stop_completes (view.command c.in-Some.command) _ _ _ _
    c.in-Err.status c.in-Err.ensures.stop)

pub returns-in-Err-clause-unread : goal.returns-in-Err-clause-unread
returns-in-Err-clause-unread g c =
    rw (← c.deref.ensures.value, ← c.in-Some.ensures.command) c.asked_job.ensures.unread
