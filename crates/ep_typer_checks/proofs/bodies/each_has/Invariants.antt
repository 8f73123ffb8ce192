use Rattle.std.proofs.Common.{◌≡◌, drop}
use Rattle.ep_typer_checks.specs.Checks.{has_none}
use Rattle.ep_typer_checks.proofs.Finding.{found}
use Rattle.ep_typer_checks.proofs.bodies.each_has.Given as goal

abbrev pub invariant-loop-place : goal.invariant-loop-place
invariant-loop-place l = found (has_none l.flags) (drop l.place-index l.places) ≡ found (has_none l.flags) l.places
