use Rattle.std.proofs.Common.{◌≡◌, ◌≤◌, ◌-◌, ◌++◌, length, take, drop}
use Rattle.ep_cells.specs.Cells.{put}
use Rattle.ep_cell_rows.proofs.rows.place_for.Given as goal

abbrev pub invariant-loop-i : goal.invariant-loop-i
invariant-loop-i g l = record {
  within : l.i ≤ length l.cells;
  rest : take l.i l.cells ++ put l.c (drop l.i l.cells) ≡ put l.c l.cells;
}

abbrev pub decreases-loop-i : goal.decreases-loop-i
decreases-loop-i g l = length l.cells - l.i
