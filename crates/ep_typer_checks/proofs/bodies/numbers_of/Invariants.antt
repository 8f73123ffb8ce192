use Rattle.std.proofs.Common.{◌≡◌, ◌++◌, drop, map}
use Rattle.ep_defined.specs.View.{defined}
use Rattle.ep_elaboration.specs.Functions.{numbers_of}
use Rattle.ep_typer_checks.proofs.bodies.numbers_of.Given as goal

abbrev pub invariant-loop-function : goal.invariant-loop-function
invariant-loop-function l =
    l.all.items ++ numbers_of (map defined (drop l.function-index l.defined)) ≡ numbers_of (map defined l.defined)
