use Rattle.std.proofs.Common.{◌≡◌, ◌-◌, length}
use Rattle.ep_double.specs.ByteStates.{loaded_states}
use Rattle.ep_double.proofs.ByteSteps.{after}
use Rattle.ep_double.proofs.mover.memory.load.Given as goal

abbrev pub invariant-loop-k : goal.invariant-loop-k
invariant-loop-k l = record {
  count : length l.all.items ≡ l.k;
  rest : after l.all.items (loaded_states l.order l.held l.at.1 l.width l.k (l.width - l.k))
      ≡ loaded_states l.order l.held l.at.1 l.width 0 l.width;
}
