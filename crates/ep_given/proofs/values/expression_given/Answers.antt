use Rattle.std.proofs.lemmas.Result.{err_from_is_err_and}
use Rattle.ep_ast.specs.Expression as source
use Rattle.ep_declared.specs.View as objects
use Rattle.ep_elaboration.specs.Given.{object_operand}
use Rattle.ep_scopes.specs.View.{env}
use Rattle.ep_typer_effects.specs.View as effects
use Rattle.ep_given.specs.View as view
use Rattle.ep_given.proofs.ListLemmas.{statement_stops}
use Rattle.ep_given.proofs.values.expression_given.Goals as goal

pub returns-in_err-statement : goal.returns-in_err-statement
returns-in_err-statement c =
    let p = err_from_is_err_and c.from_residual-in_err-statement.result c.from_residual-in_err-statement.ensures.1 in
    let x = objects.object c.args.x in
    rw (p.1, p.2) (statement_stops (env c.args.env.now) c.args.global c.args.may_call c.args.line x (source.expr c.args.tree.now)
    (view.given c.args.given.now) (effects.right c.in_ok-right.right) _ c.in_ok-right.ensures
    (c.in_err-statement.ensures (object_operand x)))
