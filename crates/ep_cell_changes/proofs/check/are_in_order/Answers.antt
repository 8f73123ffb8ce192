use Rattle.std.proofs.Common.{sym, ◌∙◌}
use Rattle.ep_cell_changes.specs.Tests.{AreInOrder}
use Rattle.ep_cell_changes.proofs.Checked.{order_turn, order_ends}
use Rattle.ep_cell_changes.proofs.check.are_in_order.Goals as goal

pub loop-i-preserved : goal.loop-i-preserved
loop-i-preserved g c =
    order_turn (AreInOrder c.args.cells.now) c.args.cells.now c.loop-i.i c.index-cells-i.result
    c.index-cells-i-in-loop-i.result c.loop-i.auto.i c.loop-i-test.true c.index-cells-i.is c.index-cells-i-in-loop-i.is
    (sym c.comes_before.ensures ∙ c.if-not-comes_before.false) c.loop-i.invariant

pub returns : goal.returns
returns g c = order_ends (AreInOrder c.args.cells.now) c.args.cells.now c.loop-i.i c.loop-i-test.false c.loop-i.invariant
