use Rattle.ep_bicells.proofs.Moving.{front_more}
use Rattle.ep_bicells.proofs.changes.Step.front.Goals as goal

pub loop-i-preserved : goal.loop-i-preserved
loop-i-preserved g c =
    front_more g.N.Num.ops c.args.model c.args.self.now c.args.cells.now c.loop-i.i c.index-cells-i.result
    c.loop-i-test.true c.index-cells-i.is c.loop-i.invariant (c.leaves.ensures c.if-not-leaves.false)
