use Rattle.ep_sample.proofs.LastLine.{all, at_end, behind}
use Rattle.ep_sample.proofs.text.last_line.Goals as goal
use Rattle.ep_sample.proofs.text.last_line.Goals.{then-loop-from-test+else-text-from-ne10, else-loop-from-test}

pub loop-from-init : goal.loop-from-init
loop-from-init c = at_end c.args.text.now c.saturating_sub-from.result c.saturating_sub-from.ensures

pub returns : goal.returns
returns c = elim c.loop-from-test.branch [
  | then-loop-from-test+else-text-from-ne10 w ↦
      behind c.args.text.now c.loop-from.from w.loop-from-test.true (c.loop-from.invariant.0)
      w.if-text-from-ne10.false (c.loop-from.invariant.1)
  | else-loop-from-test w ↦
      all c.args.text.now c.loop-from.from w.loop-from-test.false (c.loop-from.invariant.1)
]
