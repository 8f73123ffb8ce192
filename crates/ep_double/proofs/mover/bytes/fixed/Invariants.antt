use Rattle.std.proofs.Common.{◌≡◌, ◌-◌, ◌++◌, length}
use Rattle.ep_double.specs.ByteStates.{fixed_states}
use Rattle.ep_double.proofs.mover.bytes.fixed.Given as goal

abbrev pub invariant-loop-k : goal.invariant-loop-k
invariant-loop-k l = record {
  count : length l.all.items ≡ l.k;
  rest : l.all.items ++ fixed_states l.n l.k (l.count - l.k) ≡ fixed_states l.n 0 l.count;
}
