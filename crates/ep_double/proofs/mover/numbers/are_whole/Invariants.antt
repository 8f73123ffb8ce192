use Rattle.std.proofs.Common.{◌≡◌, ◌-◌}
use Rattle.ep_double.specs.ByteStates.{are_whole_bytes}
use Rattle.ep_double.proofs.mover.numbers.are_whole.Given as goal

abbrev pub invariant-loop-k : goal.invariant-loop-k
invariant-loop-k l = are_whole_bytes l.n l.k (8 - l.k) ≡ are_whole_bytes l.n 0 8
