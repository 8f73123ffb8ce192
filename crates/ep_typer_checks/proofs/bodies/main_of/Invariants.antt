use Rattle.std.proofs.Common.{◌≡◌, drop, map}
use Rattle.ep_defined.specs.View.{defined}
use Rattle.ep_elaboration.specs.Programs.{main_of}
use Rattle.ep_typer_checks.proofs.bodies.main_of.Given as goal

abbrev pub invariant-loop-function : goal.invariant-loop-function
invariant-loop-function l = main_of (map defined (drop l.function-index l.defined)) ≡ main_of (map defined l.defined)
