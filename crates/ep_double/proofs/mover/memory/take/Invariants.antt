use Rattle.std.proofs.Common.{◌≡◌, ◌-◌}
use Rattle.ep_double.specs.ByteStates.{take_states, states_in}
use Rattle.ep_double.proofs.mover.memory.take.Given as goal

abbrev pub invariant-loop-q : goal.invariant-loop-q
invariant-loop-q l =
    take_states l.block l.q (l.count - l.q) (states_in l.m.items)
    ≡ take_states l.block 0 l.count (states_in l.fn.m.items)
