use Rattle.std.proofs.Common.{◌≡◌, ◌++◌, drop}
use Rattle.ep_scopes.specs.View as view
use Rattle.ep_scopes.proofs.scopes.Scope.blocks_behind.Given as goal

abbrev pub invariant-loop-place : goal.invariant-loop-place
invariant-loop-place l =
    l.blocks.items ++ view.blocks_of (drop l.place (view.scope l.self).names)
    ≡ view.blocks_of (drop l.fn.names (view.scope l.self).names)
