use Rattle.std.proofs.Common.{refl, arith}
use Rattle.ep_expression_trees.proofs.kept.cast.Goals as goal

pub returns-then-len-gt64 : goal.returns-then-len-gt64
returns-then-len-gt64 c = λ t p. c.too_deep.ensures _ refl
    (omega (arith, c.if-len-gt64.true, rw c.deref.ensures at c.len.ensures))

pub returns-in-None : goal.returns-in-None
returns-in-None c = λ t p. c.too_deep-in-None.ensures _ refl (omega (arith, c.in-None.ensures t p))
