use Rattle.std.proofs.Common.{◌≡◌, drop}
use Rattle.ep_cells.specs.Reshare.{cell_from}
use Rattle.ep_cell_changes.proofs.reshare.cell_from.Given as goal

abbrev pub invariant-loop-c : goal.invariant-loop-c
invariant-loop-c g l = cell_from l.side l.block l.offset (drop l.c-index l.cells) ≡ cell_from l.side l.block l.offset
    l.cells
