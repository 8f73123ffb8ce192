use Rattle.std.proofs.Common.{◌≡◌, drop}
use Rattle.ep_typer_checks.specs.Checks.{closes}
use Rattle.ep_typer_checks.proofs.Finding.{found}
use Rattle.ep_typer_checks.proofs.cycles.none_closes.Given as goal

abbrev pub invariant-loop-place : goal.invariant-loop-place
invariant-loop-place l =
    found (closes l.labels l.main) (drop l.place-index l.places) ≡ found (closes l.labels l.main) l.places
