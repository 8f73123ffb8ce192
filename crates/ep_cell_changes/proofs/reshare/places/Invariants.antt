use Rattle.std.proofs.Common.{◌≡◌, ◌++◌, drop}
use Rattle.ep_cells.specs.Reshare.{places}
use Rattle.ep_cell_changes.proofs.reshare.places.Given as goal

abbrev pub invariant-loop-c : goal.invariant-loop-c
invariant-loop-c g l = l.out.items ++ places (drop l.c-index l.cells) ≡ places l.cells
