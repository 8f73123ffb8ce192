use Rattle.std.proofs.Common.{arith}
use Rattle.std.proofs.lemmas.Result.{err_from_is_err_and}
use Rattle.ep_double.specs.ByteStates.{states_in}
use Rattle.ep_double.proofs.ByteSteps.{take_step, take_stops, take_end}
use Rattle.ep_double.proofs.mover.memory.take.Goals as goal

pub loop-q-preserved : goal.loop-q-preserved
loop-q-preserved c =
    take_step c.args.block c.args.count c.loop-q.q (states_in c.loop-q.m.items) _ c.loop-q.invariant (omega arith)
    (states_in c.put_byte.new.m.items) c.in_ok-put_byte.ensures

pub returns-in_err-put_byte : goal.returns-in_err-put_byte
returns-in_err-put_byte c =
    let p = err_from_is_err_and c.from_residual.result c.from_residual.ensures.1 in
    rw (p.1, p.2)
    (take_stops c.args.block c.args.count c.loop-q.q (states_in c.loop-q.m.items) _ c.loop-q.invariant (omega arith) _
    c.in_err-put_byte.ensures)

pub returns : goal.returns
returns c =
    take_end c.args.block c.args.count c.loop-q.q (states_in c.loop-q.m.items) _ c.loop-q.invariant (omega arith)
