use Rattle.std.proofs.Common.{arith, ap, ◌∙◌, ◌+◌}
use Rattle.ep_double.proofs.ByteSteps.{masked_step, masked_end}
use Rattle.ep_double.proofs.mover.bytes.masked.Goals as goal

pub loop-k-preserved : goal.loop-k-preserved
loop-k-preserved c = record {
  count = c.push.ensures.len ∙ ap (λ n. n + 1) c.loop-k.invariant.count;
  rest =
      masked_step c.args.mask c.loop-k.k c.args.xs.now c.loop-k.all.items c.push.new.self.items _ _
      c.masked_byte.result c.byte_at.result (omega arith) c.loop-k.invariant.rest c.push.ensures.items
      c.masked_byte.ensures c.byte_at.ensures;
}

pub returns : goal.returns
returns c = masked_end c.args.mask c.loop-k.k c.args.xs.now c.loop-k.all.items _ (omega arith) c.loop-k.invariant.rest
