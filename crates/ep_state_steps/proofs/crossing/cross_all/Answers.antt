use Rattle.std.proofs.Common.{arith}
use Rattle.ep_scalar_reads.proofs.Bytes.{drop_at}
use Rattle.ep_state_steps.proofs.Loops.{cross_next, cross_last}
use Rattle.ep_state_steps.proofs.crossing.cross_all.Goals as goal

pub loop-x-preserved : goal.loop-x-preserved
loop-x-preserved g c =
    cross_next g.N.Num.ops c.x-item.result c.args.xs.now c.loop-x.x-index c.loop-x.sofar c.in_ok-next.next _
    (drop_at c.args.xs.now c.loop-x.x-index c.x-item.result c.x-item.is c.loop-x-test.true) c.in_ok-next.ensures
    c.loop-x.invariant

pub returns : goal.returns
returns g c =
    cross_last g.N.Num.ops c.args.xs.now c.loop-x.x-index c.loop-x.sofar _ (omega (arith, c.loop-x-test.false))
    c.loop-x.invariant
