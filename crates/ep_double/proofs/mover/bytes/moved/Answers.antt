use Rattle.std.proofs.Common.{arith, ap, ◌∙◌, ◌+◌}
use Rattle.ep_double.proofs.ByteSteps.{moved_step, to_end}
use Rattle.ep_double.proofs.mover.bytes.moved.Goals as goal

pub loop-i-preserved : goal.loop-i-preserved
loop-i-preserved c = record {
  count = c.push.ensures.len ∙ ap (λ n. n + 1) c.loop-i.invariant.count;
  done =
      moved_step c.args.up c.args.down c.args.width c.loop-i.i c.args.xs.now c.loop-i.all.items c.push.new.self.items
      c.moved_byte.result (omega arith) c.loop-i.invariant.done c.push.ensures.items c.moved_byte.ensures;
}

pub returns-clause-value : goal.returns-clause-value
returns-clause-value c = to_end c.loop-i.all.items _ c.loop-i.i c.args.width (omega arith) c.loop-i.invariant.done
