use Rattle.ep_core.specs.View.{what_view}
use Rattle.ep_stores.proofs.StoreLemmas.{same_gives}
use Rattle.ep_operands.specs.View as operands
use Rattle.ep_scopes.specs.View.{env}
use Rattle.ep_typer_effects.specs.View as view
use Rattle.ep_typer_effects.proofs.Shapes.{plain_at}
use Rattle.ep_typer_effects.proofs.assignments.plainly_assigned.Goals as goal

pub returns : goal.returns
returns c =
    same_gives what_view _ _ c.assigned_from.result
    (plain_at (env c.args.env.now) c.args.may_call c.args.line _ _ (operands.operand c.in_ok-x.x) (view.right c.in_ok-right.right)
    c.in_ok-x.ensures c.in_ok-right.ensures)
    (c.assigned_from.ensures (operands.operand c.in_ok-x.x))
