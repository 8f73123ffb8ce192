use Rattle.ep_ast.specs.Statement.{function_of}
use Rattle.ep_core.specs.View.{stmts_view}
use Rattle.ep_scopes.specs.View.{env, scopes}
use Rattle.ep_typer_functions.specs.View.{headed}
use Rattle.ep_typer_statements.specs.View.{lines}
use Rattle.ep_typer_functions.proofs.Bodies.{typed_is}
use Rattle.ep_typer_functions.proofs.Rows.{same_stmts}
use Rattle.ep_typer_functions.proofs.functions.function_typed.Goals as goal

pub returns-clause-means : goal.returns-clause-means
returns-clause-means c ds done =
    typed_is (env c.args.env.now) c.args.first c.args.own ds (function_of c.args.tree.now) (headed c.in_ok-head.head)
    (env c.headed.new.env) c.in_ok-head.ensures.means c.in_ok-number.number (env c.named_outside.new.env)
    (c.in_ok-number.ensures.means ds done) (env c.parts.new.env) (lines c.in_ok-stmts.stmts) c.mark-mark.result.names
    c.in_ok-locals.locals.items (stmts_view c.in_ok-stmts.stmts.items) (scopes c.leave.new.self)
    (rw (← c.deref.ensures.value) c.in_ok-stmts.ensures.means) c.mark-mark.ensures.names c.in_ok-locals.ensures
    (same_stmts c.in_ok-stmts.stmts.items) c.leave.ensures
