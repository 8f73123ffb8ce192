use Rattle.std.proofs.lemmas.Result.{IfOk-weaker}
use Rattle.ep_eval_forms.proofs.Arms.{on_if}
use Rattle.ep_eval.proofs.calls.address.Goals as goal

pub returns-clause-value : goal.returns-clause-value
returns-clause-value g c = IfOk-weaker c.address.result _ _ (λ r h. h.value) c.address.ensures

pub returns-clause-faults : goal.returns-clause-faults
returns-clause-faults g c = on_if c.address.result _ (λ r h. h.faults) c.address.ensures
