use Rattle.std.proofs.Common.{◌≡◌, ◌+◌, ◌-◌}
use Rattle.ep_double.specs.ByteStates.{show_states, States}
use Rattle.ep_double.proofs.mover.memory.show_bytes.Given as goal

abbrev pub invariant-loop-i : goal.invariant-loop-i
invariant-loop-i l =
    (m : States) → show_states l.bytes (l.from + l.i) (l.count - l.i) m ≡ show_states l.bytes l.from l.count m
