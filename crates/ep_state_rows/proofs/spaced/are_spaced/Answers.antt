use Rattle.std.proofs.Common.{◌-◌, sym, ◌∙◌, arith}
use Rattle.ep_state_rows.proofs.Beyond.{spaced_next, spaced_last}
use Rattle.ep_state_rows.proofs.spaced.are_spaced.Goals.{else-i-spots-via-then-i-spots+else-not-is_beyond}
use Rattle.ep_state_rows.proofs.spaced.are_spaced.Goals.{else-i-spots-via-else-i-spots}
use Rattle.ep_state_rows.proofs.spaced.are_spaced.Goals as goal

pub loop-i-preserved : goal.loop-i-preserved
loop-i-preserved c =
    elim c.else-i-spots.branch [
      | else-i-spots-via-then-i-spots+else-not-is_beyond w ↦ spaced_next c.args.bytes (0, 0) c.args.spots.now c.loop-i.i
          (c.loop-i.i - 1) (omega (arith, c.loop-i-test.true)) w.if-i-spots.true
          (sym w.is_beyond.ensures ∙ w.if-not-is_beyond.false) c.loop-i.invariant
      | else-i-spots-via-else-i-spots w ↦ spaced_last c.args.bytes (0, 0) c.args.spots.now (c.loop-i.i - 1)
          (omega (arith, c.loop-i-test.true, c.loop-i.auto.i)) w.if-i-spots.false
    ]
