use Rattle.std.proofs.Common.{◌<◌, ◌≤◌, length, arith, ap, ◌∙◌}
use Rattle.std.proofs.lemmas.Result.{err_from_is_err_and}
use Rattle.ep_double.specs.ByteStates.{put_states, states_in}
use Rattle.ep_double.proofs.ByteSteps.{put_step, put_stops, put_end}
use Rattle.ep_double.proofs.mover.memory.write.Goals as goal

pub loop-k-preserved : goal.loop-k-preserved
loop-k-preserved c =
    let l : c.loop-k.k < length c.args.number.now = omega (arith, c.requires.number, c.bytes-width.ensures.value) in
    put_step c.args.order c.args.at.0 c.args.at.1 c.bytes-width.result c.loop-k.k c.args.number.now
    (states_in c.loop-k.m.items) _ c.loop-k.invariant c.place.result c.place.ensures.value _ l
    (states_in c.put_byte.new.m.items) c.in_ok-put_byte.ensures

pub returns-in_err-put_byte : goal.returns-in_err-put_byte
returns-in_err-put_byte c =
    let p = err_from_is_err_and c.from_residual.result c.from_residual.ensures.1 in
    let l : c.loop-k.k < length c.args.number.now = omega (arith, c.requires.number, c.bytes-width.ensures.value) in
    rw (p.1, p.2)
    (put_stops c.args.order c.args.at.0 c.args.at.1 c.bytes-width.result c.loop-k.k c.args.number.now
    (states_in c.loop-k.m.items) _ c.loop-k.invariant c.place.result c.place.ensures.value _ l _
    c.in_err-put_byte.ensures
    ∙ ap (λ w. put_states c.args.order c.args.at.0 c.args.at.1 w 0 c.args.number.now (states_in c.args.m.now.items))
    c.bytes-width.ensures.value)

pub returns : goal.returns
returns c =
    let l : length c.args.number.now ≤ c.loop-k.k = omega (arith, c.requires.number, c.bytes-width.ensures.value) in
    put_end c.args.order c.args.at.0 c.args.at.1 c.bytes-width.result c.loop-k.k c.args.number.now
    (states_in c.loop-k.m.items) _ c.loop-k.invariant l
    ∙ ap (λ w. put_states c.args.order c.args.at.0 c.args.at.1 w 0 c.args.number.now (states_in c.args.m.now.items))
    c.bytes-width.ensures.value
