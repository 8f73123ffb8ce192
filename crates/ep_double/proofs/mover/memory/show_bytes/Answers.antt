use Rattle.std.proofs.Common.{arith}
use Rattle.std.proofs.lemmas.Result.{err_from_is_err_and}
use Rattle.ep_double.proofs.ByteSteps.{show_step, show_stops, show_end}
use Rattle.ep_double.proofs.mover.memory.show_bytes.Goals as goal

pub loop-i-preserved : goal.loop-i-preserved
loop-i-preserved c = λ m.
    show_step c.args.bytes.now c.args.from c.args.count c.loop-i.i m _ (c.loop-i.invariant m) (omega arith)
    c.in_ok-_state._state c.in_ok-_state.ensures

pub returns-in_err-_state : goal.returns-in_err-_state
returns-in_err-_state c = λ m.
    let p = err_from_is_err_and c.from_residual.result c.from_residual.ensures.1 in
    rw (p.1, p.2)
    (show_stops c.args.bytes.now c.args.from c.args.count c.loop-i.i m _ (c.loop-i.invariant m) (omega arith) _
    c.in_err-_state.ensures)

pub returns : goal.returns
returns c = λ m.
    show_end c.args.bytes.now c.args.from c.args.count c.loop-i.i m _ (c.loop-i.invariant m) (omega arith)
