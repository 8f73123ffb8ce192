use Rattle.std.proofs.Common.{◌≡◌}
use Rattle.ep_core.specs.View.{stmts_view}
use Rattle.ep_elaboration.specs.Programs.{renumbered}
use Rattle.ep_typer_checks.specs.Placed.{place}
use Rattle.ep_typer_checks.proofs.Rewriting.{mixed}
use Rattle.ep_typer_checks.proofs.renumbered.+renumbering.Given as goal

abbrev pub invariant-renumbered-loop-i : goal.invariant-renumbered-loop-i
invariant-renumbered-loop-i l =
    goal.unvisited-renumbered-loop-i l
    × (mixed (place l.places) l.i l.list.items ≡ renumbered (place l.places) (stmts_view l.initial.list.items))
