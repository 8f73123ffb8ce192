use Rattle.std.proofs.Common.{◌≡◌, ◌++◌, drop}
use Rattle.ep_cells.specs.Both.{cells_of_both}
use Rattle.ep_cell_rows.specs.Parts.{united}
use Rattle.ep_cell_rows.proofs.rows.cells_of_both.Given as goal

abbrev pub invariant-loop-i : goal.invariant-loop-i
invariant-loop-i g l = l.out.items ++ cells_of_both (united g.N.Num.ops l.union) (drop l.i l.xs) (drop l.i l.ys) ≡
    cells_of_both (united g.N.Num.ops l.union) l.xs l.ys
