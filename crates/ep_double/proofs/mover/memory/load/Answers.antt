use Rattle.std.proofs.Common.{arith, ap, ◌∙◌, ◌+◌}
use Rattle.std.proofs.lemmas.Result.{err_from_is_err_and}
use Rattle.ep_int.specs.Types.{bytes_of}
use Rattle.ep_double.specs.ByteStates.{loaded_states}
use Rattle.ep_double.proofs.ByteSteps.{loaded_step, loaded_stops, loaded_end}
use Rattle.ep_double.proofs.mover.memory.load.Goals as goal

pub loop-k-preserved : goal.loop-k-preserved
loop-k-preserved c = record {
  count = c.push.ensures.len ∙ ap (λ n. n + 1) c.loop-k.invariant.count;
  rest =
      loaded_step c.args.order c.bytes_of_block-held.result.now c.args.at.1 c.bytes-width.result c.loop-k.k
      c.loop-k.all.items _ c.loop-k.invariant.rest c.place.result c.place.ensures.value (omega arith)
      c.in_ok-state.state c.push.new.self.items c.in_ok-state.ensures c.push.ensures.items;
}

pub returns-in_err-state : goal.returns-in_err-state
returns-in_err-state c =
    let p = err_from_is_err_and c.from_residual.result c.from_residual.ensures.1 in
    rw (p.1, p.2)
    (loaded_stops c.args.order c.bytes_of_block-held.result.now c.args.at.1 c.bytes-width.result c.loop-k.k
    c.loop-k.all.items _ c.loop-k.invariant.rest c.place.result c.place.ensures.value (omega arith) _
    c.in_err-state.ensures
    ∙ (ap (λ w. loaded_states c.args.order c.bytes_of_block-held.result.now c.args.at.1 w 0 w) c.bytes-width.ensures.value
    ∙ ap (λ hs. loaded_states c.args.order hs c.args.at.1 (bytes_of c.args.t) 0 (bytes_of c.args.t))
    c.bytes_of_block-held.ensures))

pub returns : goal.returns
returns c =
    loaded_end c.args.order c.bytes_of_block-held.result.now c.args.at.1 c.bytes-width.result c.loop-k.k
    c.loop-k.all.items _ c.loop-k.invariant.rest (omega arith)
    ∙ (ap (λ w. loaded_states c.args.order c.bytes_of_block-held.result.now c.args.at.1 w 0 w) c.bytes-width.ensures.value
    ∙ ap (λ hs. loaded_states c.args.order hs c.args.at.1 (bytes_of c.args.t) 0 (bytes_of c.args.t))
    c.bytes_of_block-held.ensures)
