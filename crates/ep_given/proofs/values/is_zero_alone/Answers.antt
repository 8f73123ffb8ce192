use Rattle.ep_given.proofs.FieldLemmas.{not_alone}
use Rattle.ep_given.proofs.values.is_zero_alone.Goals as goal

pub returns-else-values-eq1 : goal.returns-else-values-eq1
returns-else-values-eq1 c = not_alone c.args.values.now c.if-values-eq1.false
