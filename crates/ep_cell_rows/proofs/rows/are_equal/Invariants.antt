use Rattle.std.proofs.Common.{◌≡◌, drop, length}
use Rattle.ep_cell_rows.proofs.rows.are_equal.Given as goal

-- the lists are the same where what is left of them is
abbrev pub invariant-loop-i : goal.invariant-loop-i
invariant-loop-i g l = record {
  long : length l.xs ≡ length l.ys;
  rest : drop l.i l.xs ≡ drop l.i l.ys → l.xs ≡ l.ys;
}
