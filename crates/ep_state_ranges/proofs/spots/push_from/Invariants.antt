use Rattle.std.proofs.Common.{◌≡◌, ◌++◌, drop}
use Rattle.ep_state_ranges.proofs.spots.push_from.Given as goal

abbrev pub invariant-loop-i : goal.invariant-loop-i
invariant-loop-i l = l.out.items ++ drop l.i l.spots ≡ l.fn.out.items ++ drop l.from l.spots
