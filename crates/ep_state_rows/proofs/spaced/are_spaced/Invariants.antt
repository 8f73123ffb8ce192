use Rattle.std.proofs.Common.{drop}
use Rattle.ep_state_rows.specs.Rows.{AreSpaced}
use Rattle.ep_state_rows.proofs.spaced.are_spaced.Given as goal

abbrev pub invariant-loop-i : goal.invariant-loop-i
invariant-loop-i l = AreSpaced l.bytes (drop l.i l.spots)
