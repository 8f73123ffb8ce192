use Rattle.std.proofs.Common.{ap, ◌∙◌, sym, List, None}
use Rattle.ep_ast.specs.Statement as shape
use Rattle.ep_ast.specs.Statement.{Stmt, to_stmts}
use Rattle.ep_statement_parts.proofs.DepthLemmas.{stmts_first}
use Rattle.ep_statement_parts.proofs.kept.arm_tree.Goals as goal

pub returns-in-Fits : goal.returns-in-Fits
returns-in-Fits c = λ ss k.
    let a = rw c.in-Fits.is at k in (
      c.new_arms.ensures ∙ ap (λ (ts : List Stmt). shape.make_arms c.args.line c.args.order (to_stmts ts) None) a.0,
      sym
          (stmts_first ss) ∙ a.1,
    )

pub returns-in-TooDeep : goal.returns-in-TooDeep
returns-in-TooDeep c = λ ss k. sym (stmts_first ss) ∙ (rw c.in-TooDeep.is at k)
