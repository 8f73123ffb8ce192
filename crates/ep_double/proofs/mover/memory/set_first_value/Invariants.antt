use Rattle.std.proofs.Common.{◌≡◌, drop}
use Rattle.ep_int.specs.Types.{bytes_of}
use Rattle.ep_double.specs.ByteStates.{bits, fixed_states, set_states, states_in}
use Rattle.ep_double.proofs.mover.memory.set_first_value.Given as goal

abbrev pub invariant-loop-k : goal.invariant-loop-k
invariant-loop-k l =
    set_states l.order l.first.block l.first.offset (bytes_of l.first.t) l.k
    (drop l.k (fixed_states (bits l.first.value) 0 (bytes_of l.first.t))) (states_in l.m.items)
    ≡ set_states l.order l.first.block l.first.offset (bytes_of l.first.t) 0
    (fixed_states (bits l.first.value) 0 (bytes_of l.first.t)) (states_in l.fn.m.items)
