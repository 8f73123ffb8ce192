use Rattle.std.proofs.Common.{◌≡◌, ◌-◌, ◌≤◌, true, length, drop}
use Rattle.ep_sample.specs.Text.{is_one_line}
use Rattle.ep_sample.proofs.text.last_line.Given as goal

abbrev pub invariant-loop-from : goal.invariant-loop-from
invariant-loop-from l = (l.from ≤ length l.text - 1) × (is_one_line (drop l.from l.text) ≡ true)

abbrev pub decreases-loop-from : goal.decreases-loop-from
decreases-loop-from l = l.from
