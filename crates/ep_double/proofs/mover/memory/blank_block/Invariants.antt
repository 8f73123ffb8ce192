use Rattle.std.proofs.Common.{◌≡◌, ◌-◌, ◌++◌}
use Rattle.ep_double.specs.ByteStates.{blank_states}
use Rattle.ep_double.proofs.mover.memory.blank_block.Given as goal

abbrev pub invariant-loop-i : goal.invariant-loop-i
invariant-loop-i l = l.all.items ++ blank_states l.is_zero (l.count - l.i) ≡ blank_states l.is_zero l.count
