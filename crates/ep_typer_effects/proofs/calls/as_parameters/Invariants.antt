use Rattle.std.proofs.Common.{◌≡◌, map, take}
use Rattle.ep_typing.specs.Calls as rule
use Rattle.ep_stores.specs.View as view
use Rattle.ep_typer_effects.proofs.calls.as_parameters.Given as goal

abbrev pub invariant-loop-c : goal.invariant-loop-c
invariant-loop-c l = map view.parameter l.parameters.items ≡ map rule.of_type (take l.c-index l.types)
