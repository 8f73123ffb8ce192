use Rattle.std.proofs.Common.{◌≡◌, drop, length}
use Rattle.ep_pointers.proofs.merge.are_same.Given as goal

-- the lists are the same where what is left of them is
abbrev pub invariant-loop-i : goal.invariant-loop-i
invariant-loop-i g l = record {
  long : length l.x ≡ length l.y;
  rest : drop l.i l.x ≡ drop l.i l.y → l.x ≡ l.y;
}
