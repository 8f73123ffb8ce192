use Rattle.std.proofs.Common.{ap, ◌∙◌}
use Rattle.ep_core.specs.View.{what_view}
use Rattle.ep_core.proofs.Views.{scope_is}
use Rattle.ep_steps.proofs.moves.scope_of.Goals as goal

pub returns-in-Scope : goal.returns-in-Scope
returns-in-Scope c =
    rw (c.deref.ensures.value, c.deref-in-Scope.ensures.value)
    (ap what_view c.in-Scope.is ∙ scope_is c.in-Scope.blocks c.in-Scope.body)
