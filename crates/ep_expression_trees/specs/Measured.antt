-- An expression by itself, without how deep it is: its tree, or its line where it is too deep.
use Rattle.std.specs.Prelude.{◌≡◌, ◌<◌, ◌≤◌}
use Rattle.ep_ast.specs.declared.expressions.ExprTree.{ExprTree}
use Rattle.ep_ast.specs.Expression.{Expr, expr, line_of}
use Rattle.ep_ast.specs.Nesting.{depth}
use Rattle.ep_reading.specs.declared.measured.Measured.{Measured}
use Rattle.ep_reading.specs.declared.measured.Measured.TheVariants as measured

abbrev pub ShowsExpr : Measured ExprTree → Expr → Type 0
ShowsExpr (measured.Fits t) e = (expr t ≡ e) × (depth e ≤ 64)
ShowsExpr (measured.TooDeep l) e = (64 < depth e) × (l ≡ line_of e)
