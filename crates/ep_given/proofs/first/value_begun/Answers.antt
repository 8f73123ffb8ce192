use Rattle.ep_ast.specs.Expression as source
use Rattle.ep_declared.specs.View as objects
use Rattle.ep_scopes.specs.View.{env}
use Rattle.ep_given.specs.View as view
use Rattle.ep_given.proofs.FirstLemmas.{value_begins, value_stops}
use Rattle.ep_given.proofs.first.value_begun.Goals as goal

pub returns-in-Ok : goal.returns-in-Ok
returns-in-Ok c =
    value_begins (env c.args.env.now) c.args.global c.args.may_call c.args.line (objects.object c.in_ok-copy.copy)
    (objects.object c.args.x.now) (source.expr c.args.tree.now) (view.given c.new-given.result) c.in_ok-copy.ensures
    c.new-given.ensures (view.given c.expression_given.new.given) c.in-Ok.ensures

pub returns-in-Err : goal.returns-in-Err
returns-in-Err c =
    rw c.at_statement.ensures (value_stops (env c.args.env.now) c.args.global c.args.may_call c.args.line
    (objects.object c.in_ok-copy.copy) (objects.object c.args.x.now) (source.expr c.args.tree.now) (view.given c.new-given.result)
    c.in_ok-copy.ensures c.new-given.ensures c.in-Err.halt c.in-Err.ensures)
