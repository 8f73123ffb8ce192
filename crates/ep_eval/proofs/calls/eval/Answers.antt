use Rattle.std.proofs.lemmas.Result.{IfOk-weaker}
use Rattle.ep_eval_forms.proofs.Arms.{on_if}
use Rattle.ep_eval.proofs.calls.eval.Goals as goal

pub returns-clause-value : goal.returns-clause-value
returns-clause-value g c = IfOk-weaker c.eval.result _ _ (λ r h. h.value) c.eval.ensures

pub returns-clause-faults : goal.returns-clause-faults
returns-clause-faults g c = on_if c.eval.result _ (λ r h. h.faults) c.eval.ensures
