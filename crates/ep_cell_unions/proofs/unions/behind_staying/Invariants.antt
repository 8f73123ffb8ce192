use Rattle.std.proofs.Common.{◌≡◌, ◌≤◌, ◌-◌, length, drop}
use Rattle.ep_cells.specs.Both.{cells_of_both}
use Rattle.ep_cell_rows.specs.Parts.{united}
use Rattle.ep_shared_parts.specs.Walks.{IsAt, rest}
use Rattle.ep_cell_unions.proofs.unions.behind_staying.Given as goal

abbrev pub invariant-loop-i : goal.invariant-loop-i
invariant-loop-i g l = record {
  within : l.i ≤ length l.cells;
  at : IsAt l.behind l.others;
  left : rest l.behind l.others ≡ drop l.i (rest l.fn.at l.others);
  stay : cells_of_both (united g.N.Num.ops l.union) (drop l.i l.cells) (rest l.behind l.others) ≡ drop l.i l.cells → cells_of_both (united g.N.Num.ops l.union) l.cells (rest l.fn.at l.others) ≡ l.cells;
}

abbrev pub decreases-loop-i : goal.decreases-loop-i
decreases-loop-i g l = length l.cells - l.i
