use Rattle.std.proofs.Common.{◌≡◌, ◌++◌, map, drop}
use Rattle.ep_cells.specs.Cells.{each_becomes}
use Rattle.ep_cells.specs.Forms.{reformed}
use Rattle.ep_cell_rows.specs.declared.change.Change.TheVariants.{WeakWrite}
use Rattle.ep_cell_rows.specs.Parts.{fate_of}
use Rattle.ep_cell_ranges.specs.Ranges.{left_by_blur}
use Rattle.ep_bicells.proofs.blur.left_by_blur.Given as goal

-- with what is left to do it is all
abbrev pub invariant-loop-x : goal.invariant-loop-x
invariant-loop-x g l =
    l.out.items ++ map (reformed (fate_of (WeakWrite l.place))) (each_becomes (left_by_blur g.N.Num.ops l.model l.place)
    (drop l.x-index l.cells))
    ≡ map (reformed (fate_of (WeakWrite l.place))) (each_becomes (left_by_blur g.N.Num.ops l.model l.place) l.cells)
