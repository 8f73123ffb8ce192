use Rattle.std.proofs.Common.{◌≡◌, drop}
use Rattle.ep_cell_ranges.specs.Spots.{all_spots}
use Rattle.ep_state_ranges.proofs.spots.put_each.Given as goal

abbrev pub invariant-loop-i : goal.invariant-loop-i
invariant-loop-i l = l.out.items ≡ all_spots (drop l.i l.left) l.right
