use Rattle.std.proofs.Common.{◌≡◌, drop}
use Rattle.ep_double.specs.ByteStates.{put_states, states_in}
use Rattle.ep_double.proofs.mover.memory.write.Given as goal

abbrev pub invariant-loop-k : goal.invariant-loop-k
invariant-loop-k l =
    put_states l.order l.at.0 l.at.1 l.width l.k (drop l.k l.number) (states_in l.m.items)
    ≡ put_states l.order l.at.0 l.at.1 l.width 0 l.number (states_in l.fn.m.items)
