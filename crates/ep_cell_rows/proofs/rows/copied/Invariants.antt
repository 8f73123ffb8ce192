use Rattle.std.proofs.Common.{◌≡◌, ◌++◌, drop}
use Rattle.ep_cell_rows.proofs.rows.copied.Given as goal

abbrev pub invariant-loop-c : goal.invariant-loop-c
invariant-loop-c g l = l.out.items ++ drop l.c-index l.cells ≡ l.cells
