use Rattle.std.proofs.Common.{◌≡◌, ◌≤◌, ◌-◌, List, length, drop}
use Rattle.ep_cells.specs.declared.cell.Cell.{Cell}
use Rattle.ep_cells.specs.Both.{cells_of_both}
use Rattle.ep_cell_rows.specs.Parts.{united}
use Rattle.ep_shared_parts.specs.Walks.{IsAt, rest}
use Rattle.ep_cell_unions.proofs.unions.behind_run.Given as goal

abbrev pub invariant-loop-i : goal.invariant-loop-i
invariant-loop-i g l = record {
  from : l.from ≤ l.i;
  within : l.i ≤ length l.cells;
  at : IsAt l.behind l.others;
  left : (zs : List (Cell g.row.N.Denot)) → rest l.fn.at l.others ≡ drop l.from zs → rest l.behind l.others ≡ drop l.i zs;
  stay : cells_of_both (united g.N.Num.ops l.union) (drop l.i l.cells) (rest l.behind l.others) ≡ drop l.i l.cells → cells_of_both (united g.N.Num.ops l.union) (drop l.from l.cells) (rest l.fn.at l.others) ≡ drop l.from l.cells;
}

abbrev pub decreases-loop-i : goal.decreases-loop-i
decreases-loop-i g l = length l.cells - l.i
