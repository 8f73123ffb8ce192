use Rattle.std.proofs.Common.{◌≡◌, vec_len}
use Rattle.ep_ast.specs.Expression.{Expr}
use Rattle.ep_expression_trees.specs.BoundedTrees.{Shows, wrap_all}
use Rattle.ep_exprs.proofs.frames.wrapped.Given as goal

abbrev pub invariant-loop-prefix : goal.invariant-loop-prefix
invariant-loop-prefix l = (t : Expr) → Shows l.fn.operand t → (u : Expr) × Shows l.found u
    × (wrap_all l.left.items u ≡ wrap_all l.fn.prefixes.items t)

abbrev pub decreases-loop-prefix : goal.decreases-loop-prefix
decreases-loop-prefix l = vec_len l.left
