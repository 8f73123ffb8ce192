use Rattle.std.proofs.Common.{◌≡◌, drop, length}
use Rattle.ep_double.specs.ByteStates.{merged_states}
use Rattle.ep_double.proofs.ByteSteps.{after}
use Rattle.ep_double.proofs.mover.bytes.merged.Given as goal

abbrev pub invariant-loop-i : goal.invariant-loop-i
invariant-loop-i l = record {
  count : length l.all.items ≡ l.i;
  rest : after l.all.items (merged_states (drop l.i l.xs) (drop l.i l.ys)) ≡ merged_states l.xs l.ys;
}
