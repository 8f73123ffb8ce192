use Rattle.std.proofs.Common.{arith, ap, ◌∙◌, ◌+◌}
use Rattle.ep_double.proofs.ByteSteps.{fixed_step, fixed_end}
use Rattle.ep_double.proofs.mover.bytes.fixed.Goals as goal

pub loop-k-preserved : goal.loop-k-preserved
loop-k-preserved c = record {
  count = c.push.ensures.len ∙ ap (λ n. n + 1) c.loop-k.invariant.count;
  rest =
      fixed_step c.args.n c.args.count c.loop-k.k c.loop-k.all.items c.push.new.self.items _ c.state_of_byte.result
      c.byte_at.result (omega arith) c.loop-k.invariant.rest c.push.ensures.items c.state_of_byte.ensures
      c.byte_at.ensures;
}

pub returns-clause-value : goal.returns-clause-value
returns-clause-value c =
    fixed_end c.args.n c.args.count c.loop-k.k c.loop-k.all.items _ (omega arith) c.loop-k.invariant.rest
