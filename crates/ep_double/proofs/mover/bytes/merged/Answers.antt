use Rattle.std.proofs.Common.{arith, ap, ◌∙◌, ◌+◌}
use Rattle.std.proofs.lemmas.Result.{err_from_is_err_and}
use Rattle.ep_double.proofs.ByteSteps.{merged_step, merged_stops, merged_end}
use Rattle.ep_double.specs.declared.mover.bytes.ByteState.TheVariants.{Unset}
use Rattle.ep_double.proofs.mover.bytes.merged.Goals as goal

pub loop-i-preserved : goal.loop-i-preserved
loop-i-preserved c = record {
  count = c.push.ensures.len ∙ ap (λ n. n + 1) c.loop-i.invariant.count;
  rest =
      merged_step c.args.xs.now c.args.ys.now c.loop-i.all.items _ c.loop-i.i c.loop-i.invariant.rest _ (omega arith) _
      (omega arith) c.in_ok-byte.byte c.push.new.self.items c.in_ok-byte.ensures c.push.ensures.items;
}

pub returns-in_err-byte : goal.returns-in_err-byte
returns-in_err-byte c =
    let p = err_from_is_err_and c.from_residual.result c.from_residual.ensures.1 in
    rw (p.1, p.2)
    (merged_stops c.args.xs.now c.args.ys.now c.loop-i.all.items _ c.loop-i.i c.loop-i.invariant.rest _ (omega arith) _
    (omega arith) _ c.in_err-byte.ensures)

pub returns : goal.returns
returns c =
    merged_end c.args.xs.now c.args.ys.now c.loop-i.all.items _ c.loop-i.i c.loop-i.invariant.rest Unset (omega arith)
