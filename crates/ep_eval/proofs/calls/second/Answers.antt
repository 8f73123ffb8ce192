use Rattle.std.proofs.lemmas.Result.{IfOk-weaker}
use Rattle.ep_eval_forms.proofs.Arms.{on_if}
use Rattle.ep_eval.proofs.calls.second.Goals as goal

pub returns-clause-value : goal.returns-clause-value
returns-clause-value g c = IfOk-weaker c.second.result _ _ (λ r h. h.value) c.second.ensures

pub returns-clause-faults : goal.returns-clause-faults
returns-clause-faults g c = on_if c.second.result _ (λ r h. h.faults) c.second.ensures

pub returns-clause-yes : goal.returns-clause-yes
returns-clause-yes g c = IfOk-weaker c.second.result _ _ (λ r h. h.yes) c.second.ensures

pub returns-clause-no : goal.returns-clause-no
returns-clause-no g c = IfOk-weaker c.second.result _ _ (λ r h. h.no) c.second.ensures
