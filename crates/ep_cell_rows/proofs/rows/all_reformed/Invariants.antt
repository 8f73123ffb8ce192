use Rattle.std.proofs.Common.{◌≡◌, ◌++◌, map, drop}
use Rattle.ep_cells.specs.Forms.{reformed}
use Rattle.ep_cell_rows.specs.Parts.{fate_of}
use Rattle.ep_cell_rows.proofs.rows.all_reformed.Given as goal

abbrev pub invariant-loop-x : goal.invariant-loop-x
invariant-loop-x g l = l.out.items ++ map (reformed (fate_of l.change)) (drop l.x-index l.cells) ≡ map (reformed (fate_of
    l.change)) l.cells
