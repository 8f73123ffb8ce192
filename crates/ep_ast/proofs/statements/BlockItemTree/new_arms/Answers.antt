use Rattle.std.proofs.Common.{Option, ap, ◌∙◌}
use Rattle.ep_ast.specs.declared.statements.BlockItemTree.TheBlock.{back-BlockItemTree-Arms-3}
use Rattle.ep_ast.specs.Statement.{Stmts, make_arms, held_stmts, statements}
use Rattle.ep_ast.proofs.Rows.{stmts-vec, stmts-option}
use Rattle.ep_ast.proofs.statements.BlockItemTree.new_arms.Goals as goal

pub returns : goal.returns
returns c =
    ap (λ (ss : Stmts). make_arms c.args.line c.args.order ss (held_stmts (back-BlockItemTree-Arms-3 c.args.otherwise)))
    (stmts-vec c.args.then)
    ∙ ap (λ (ts : Option Stmts). make_arms c.args.line c.args.order (statements c.args.then) ts)
    (stmts-option c.args.otherwise)
