use Rattle.std.proofs.Common.{◌≡◌, ◌++◌, drop, length}
use Rattle.ep_double.specs.ByteStates.{masked_states}
use Rattle.ep_double.proofs.mover.bytes.masked.Given as goal

abbrev pub invariant-loop-k : goal.invariant-loop-k
invariant-loop-k l = record {
  count : length l.all.items ≡ l.k;
  rest : l.all.items ++ masked_states l.mask l.k (drop l.k l.xs) ≡ masked_states l.mask 0 l.xs;
}
