use Rattle.std.proofs.Common.{◌≡◌, ◌+◌, ◌-◌, ◌≤◌, ◌++◌, length, drop}
use Rattle.ep_cell_ranges.specs.Spots.{all_spots}
use Rattle.ep_state_ranges.specs.Merged.{AreRising}
use Rattle.ep_state_ranges.proofs.spots.merged.Given as goal

abbrev pub invariant-loop-i : goal.invariant-loop-i
invariant-loop-i l = record {
  is : l.out.items ++ all_spots (drop l.i l.left) (drop l.j l.right) ≡ all_spots l.left l.right;
  first : AreRising (drop l.i l.left);
  second : AreRising (drop l.j l.right);
  within : l.i ≤ length l.left;
  inside : l.j ≤ length l.right;
}

abbrev pub decreases-loop-i : goal.decreases-loop-i
decreases-loop-i l = (length l.left - l.i) + (length l.right - l.j)
