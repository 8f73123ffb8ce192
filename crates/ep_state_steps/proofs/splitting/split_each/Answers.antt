use Rattle.std.proofs.Common.{subst, arith}
use Rattle.ep_cells.specs.States.{Each}
use Rattle.ep_scalar_reads.proofs.Bytes.{drop_at}
use Rattle.ep_state_steps.specs.Ones.{Has}
use Rattle.ep_state_steps.proofs.Loops.{split_next, split_last}
use Rattle.ep_state_steps.proofs.splitting.split_each.Goals as goal

pub split_like-requires-clause-has : goal.split_like-requires-clause-has
split_like-requires-clause-has g c =
    (subst (Each (Has c.args.side)) (drop_at c.args.xs.now c.loop-x.x-index c.x-item.result c.x-item.is
    c.loop-x-test.true) c.loop-x.invariant.1).0

pub loop-x-preserved : goal.loop-x-preserved
loop-x-preserved g c =
    let e = drop_at c.args.xs.now c.loop-x.x-index c.x-item.result c.x-item.is c.loop-x-test.true in (
      split_next g.N.Num.ops c.args.side c.x-item.result c.args.xs.now c.loop-x.x-index c.loop-x.sofar
          c.in_ok-next.next _ e c.in_ok-next.ensures c.loop-x.invariant.0,
      (subst (Each (Has c.args.side)) e c.loop-x.invariant.1).1,
    )

pub returns : goal.returns
returns g c =
    split_last g.N.Num.ops c.args.side c.args.xs.now c.loop-x.x-index c.loop-x.sofar _
    (omega (arith, c.loop-x-test.false)) c.loop-x.invariant.0
