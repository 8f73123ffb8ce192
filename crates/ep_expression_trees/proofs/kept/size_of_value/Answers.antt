use Rattle.std.proofs.Common.{refl}
use Rattle.ep_expression_trees.proofs.kept.size_of_value.Goals as goal

pub returns-in-None : goal.returns-in-None
returns-in-None c = λ t p. c.too_deep.ensures _ refl (c.in-None.ensures t p)
