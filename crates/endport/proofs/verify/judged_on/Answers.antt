use Rattle.std.proofs.Common.{◌∙◌, sym, ap}
use Rattle.endport.specs.Certificates.{verdict_status}
use Rattle.endport.proofs.Verifying.{yes_of}
use Rattle.endport.proofs.verify.judged_on.Goals as goal

pub verify-requires-clause-heads : goal.verify-requires-clause-heads
verify-requires-clause-heads c = rw (c.deref.ensures.value) c.requires.heads

pub verify-requires-clause-few : goal.verify-requires-clause-few
verify-requires-clause-few c = rw (c.deref.ensures.value) c.requires.few

pub returns-in-Ok-clause-verdict : goal.returns-in-Ok-clause-verdict
returns-in-Ok-clause-verdict c = record {
  verdict = c.in_ok-verdict.verdict;
  is_verdict = rw (← c.deref.ensures.value) c.in_ok-verdict.ensures.answer;
  text_is = c.in-Ok.ensures;
  status_is = c.status_of.ensures;
}

pub returns-in-Ok-clause-portable : goal.returns-in-Ok-clause-portable
returns-in-Ok-clause-portable c = λ e.
    c.in_ok-verdict.ensures.agree (yes_of c.in_ok-verdict.verdict (sym c.status_of.ensures ∙ e))

pub returns-in-Ok-clause-closed : goal.returns-in-Ok-clause-closed
returns-in-Ok-clause-closed c = λ singles bytes none one closed steady.
    c.status_of.ensures
    ∙ ap verdict_status
    (c.in_ok-verdict.ensures.closed singles bytes (c.deref.ensures.value ∙ none) one closed steady)
