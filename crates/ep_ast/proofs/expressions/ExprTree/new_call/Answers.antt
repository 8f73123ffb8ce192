use Rattle.std.proofs.Common.{ap}
use Rattle.ep_ast.specs.Expression.{Exprs, call, expr}
use Rattle.ep_ast.proofs.Rows.{exprs-vec}
use Rattle.ep_ast.proofs.expressions.ExprTree.new_call.Goals as goal

pub returns : goal.returns
returns c = ap (λ (es : Exprs). call c.args.line (expr c.args.callee.value) es) (exprs-vec c.args.arguments)
