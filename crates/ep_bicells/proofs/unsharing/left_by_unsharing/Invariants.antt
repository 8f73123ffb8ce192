use Rattle.std.proofs.Common.{◌≡◌, ◌++◌, map, drop}
use Rattle.ep_cells.specs.Cells.{each_becomes}
use Rattle.ep_cells.specs.Forms.{reformed}
use Rattle.ep_cell_rows.specs.Parts.{fate_by_unsharing}
use Rattle.ep_bicells.specs.Steps.{left_by_unsharing}
use Rattle.ep_bicells.proofs.unsharing.left_by_unsharing.Given as goal

-- with what is left to do it is all
abbrev pub invariant-loop-x : goal.invariant-loop-x
invariant-loop-x g l =
    l.out.items ++ map (reformed (fate_by_unsharing l.place)) (each_becomes (left_by_unsharing l.model l.place)
    (drop l.x-index l.cells))
    ≡ map (reformed (fate_by_unsharing l.place)) (each_becomes (left_by_unsharing l.model l.place) l.cells)
