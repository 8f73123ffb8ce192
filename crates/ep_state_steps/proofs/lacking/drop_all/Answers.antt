use Rattle.std.proofs.Common.{arith}
use Rattle.ep_scalar_reads.proofs.Bytes.{drop_at}
use Rattle.ep_state_steps.proofs.Loops.{drop_next, drop_last}
use Rattle.ep_state_steps.proofs.lacking.drop_all.Goals as goal

pub loop-z-preserved : goal.loop-z-preserved
loop-z-preserved g c =
    drop_next c.z-item.result c.args.zs.now c.loop-z.z-index c.loop-z.sofar c.in_ok-next.next _
    (drop_at c.args.zs.now c.loop-z.z-index c.z-item.result c.z-item.is c.loop-z-test.true) c.in_ok-next.ensures
    c.loop-z.invariant

pub returns : goal.returns
returns g c =
    drop_last c.args.zs.now c.loop-z.z-index c.loop-z.sofar _ (omega (arith, c.loop-z-test.false)) c.model.ensures.cells
    c.loop-z.invariant
