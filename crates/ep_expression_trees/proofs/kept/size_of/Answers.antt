use Rattle.std.proofs.Common.{refl, arith}
use Rattle.ep_expression_trees.proofs.kept.size_of.Goals as goal

pub returns-else-len-le64 : goal.returns-else-len-le64
returns-else-len-le64 c = c.too_deep.ensures _ refl
    (omega (arith, c.if-len-le64.false, rw c.deref.ensures at c.len.ensures))
