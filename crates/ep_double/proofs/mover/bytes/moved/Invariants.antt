use Rattle.std.proofs.Common.{◌≡◌, ◌++◌, take, drop, length}
use Rattle.ep_double.specs.ByteStates.{zero_states}
use Rattle.ep_double.proofs.mover.bytes.moved.Given as goal

abbrev pub invariant-loop-i : goal.invariant-loop-i
invariant-loop-i l = record {
  count : length l.all.items ≡ l.i;
  done : l.all.items ≡ take l.i (zero_states l.up ++ (drop l.down l.xs ++ zero_states l.width));
}
