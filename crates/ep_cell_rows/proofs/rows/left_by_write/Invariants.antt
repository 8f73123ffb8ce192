use Rattle.std.proofs.Common.{◌≡◌, ◌++◌, map, drop}
use Rattle.ep_cells.specs.Cells.{each_becomes}
use Rattle.ep_cells.specs.Forms.{reformed}
use Rattle.ep_cells.specs.Write.{left_by_write}
use Rattle.ep_cell_rows.specs.declared.change.Change.TheVariants.{Write}
use Rattle.ep_cell_rows.specs.Parts.{fate_of}
use Rattle.ep_cell_rows.proofs.rows.left_by_write.Given as goal

abbrev pub invariant-loop-x : goal.invariant-loop-x
invariant-loop-x g l = l.out.items ++ map (reformed (fate_of (Write l.p))) (each_becomes (left_by_write l.model l.p)
    (drop l.x-index l.cells)) ≡ map (reformed (fate_of (Write l.p))) (each_becomes (left_by_write l.model l.p)
    l.cells)
