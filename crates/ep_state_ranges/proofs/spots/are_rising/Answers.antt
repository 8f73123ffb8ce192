use Rattle.std.proofs.Common.{◌-◌, sym, ◌∙◌, arith}
use Rattle.ep_state_ranges.proofs.Merging.{rising_next, rising_last}
use Rattle.ep_state_ranges.proofs.spots.are_rising.Goals.{else-i-spots-via-then-i-spots+else-not-comes_before}
use Rattle.ep_state_ranges.proofs.spots.are_rising.Goals.{else-i-spots-via-else-i-spots}
use Rattle.ep_state_ranges.proofs.spots.are_rising.Goals as goal

pub loop-i-preserved : goal.loop-i-preserved
loop-i-preserved c =
    elim c.else-i-spots.branch [
      | else-i-spots-via-then-i-spots+else-not-comes_before w ↦ rising_next (0, 0) c.args.spots.now c.loop-i.i
          (c.loop-i.i - 1) (omega (arith, c.loop-i-test.true)) w.if-i-spots.true
          (sym w.comes_before.ensures ∙ w.if-not-comes_before.false) c.loop-i.invariant
      | else-i-spots-via-else-i-spots w ↦ rising_last (0, 0) c.args.spots.now (c.loop-i.i - 1)
          (omega (arith, c.loop-i-test.true, c.loop-i.auto.i)) w.if-i-spots.false
    ]
