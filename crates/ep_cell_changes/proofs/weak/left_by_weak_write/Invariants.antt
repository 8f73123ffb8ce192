use Rattle.std.proofs.Common.{◌≡◌, ◌++◌, map, drop}
use Rattle.ep_cells.specs.Cells.{place_of, each_becomes}
use Rattle.ep_cells.specs.Forms.{reformed}
use Rattle.ep_cells.specs.Weaken.{left_by_weak_write}
use Rattle.ep_cell_rows.specs.declared.change.Change.TheVariants.{WeakWrite}
use Rattle.ep_cell_rows.specs.Parts.{fate_of}
use Rattle.ep_cell_changes.proofs.weak.left_by_weak_write.Given as goal

-- with what is left to do it is all
abbrev pub invariant-loop-x : goal.invariant-loop-x
invariant-loop-x g l =
    l.out.items ++ map (reformed (fate_of (WeakWrite (place_of l.model l.c)))) (each_becomes
    (left_by_weak_write g.N.Num.ops l.model l.c l.stays) (drop l.x-index l.cells))
    ≡ map (reformed (fate_of (WeakWrite (place_of l.model l.c)))) (each_becomes
    (left_by_weak_write g.N.Num.ops l.model l.c l.stays) l.cells)
