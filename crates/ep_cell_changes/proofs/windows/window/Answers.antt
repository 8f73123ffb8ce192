use Rattle.std.proofs.Common.{subst, sym}
use Rattle.ep_cell_changes.specs.Tests.{AreInOrder}
use Rattle.ep_cell_changes.proofs.Beginnings.{order_drop, window_is}
use Rattle.ep_cell_changes.proofs.windows.window.Goals as goal

pub count_before-requires-2 : goal.count_before-requires-2
count_before-requires-2 g c =
    subst AreInOrder (sym c.from-rest.ensures) (order_drop c.args.cells.now c.count_before.result c.requires)

pub returns : goal.returns
returns g c =
    window_is c.args.block c.args.low c.args.high c.count_before.result c.count_before-2.result c.args.cells.now
    c.from-rest.result.now c.first.result.now c.count_before.ensures.within c.count_before.ensures.point
    c.from-rest.ensures c.count_before-2.ensures.within c.count_before-2.ensures.point c.first.ensures
