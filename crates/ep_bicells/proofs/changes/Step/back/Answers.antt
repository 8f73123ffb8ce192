use Rattle.std.proofs.Common.{◌-◌, arith}
use Rattle.ep_bicells.proofs.Moving.{back_more}
use Rattle.ep_bicells.proofs.changes.Step.back.Goals as goal

pub loop-i-preserved : goal.loop-i-preserved
loop-i-preserved g c =
    back_more g.N.Num.ops c.args.model c.args.self.now c.args.cells.now (c.loop-i.i - 1) c.loop-i.i
    c.index-cells-i.result (omega (arith, c.loop-i-test.true)) (omega (arith, c.loop-i-test.true, c.loop-i.auto.i))
    c.index-cells-i.is c.loop-i.invariant (c.leaves.ensures c.if-not-leaves.false)
