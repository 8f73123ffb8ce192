use Rattle.std.proofs.Common.{drop}
use Rattle.ep_state_ranges.specs.Merged.{AreRising}
use Rattle.ep_state_ranges.proofs.spots.are_rising.Given as goal

abbrev pub invariant-loop-i : goal.invariant-loop-i
invariant-loop-i l = AreRising (drop l.i l.spots)
