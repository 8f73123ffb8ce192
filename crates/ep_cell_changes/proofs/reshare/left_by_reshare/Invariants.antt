use Rattle.std.proofs.Common.{◌≡◌, ◌++◌, map, drop}
use Rattle.ep_cells.specs.Cells.{each_becomes}
use Rattle.ep_cells.specs.Forms.{reformed}
use Rattle.ep_cells.specs.Reshare.{left_by_reshare}
use Rattle.ep_cell_rows.specs.Parts.{fate_of}
use Rattle.ep_cell_changes.proofs.reshare.left_by_reshare.Given as goal

abbrev pub invariant-loop-x : goal.invariant-loop-x
invariant-loop-x g l =
    l.out.items ++ map (reformed (fate_of l.change)) (each_becomes (left_by_reshare l.l) (drop l.x-index l.cells))
    ≡ map (reformed (fate_of l.change)) (each_becomes (left_by_reshare l.l) l.cells)
