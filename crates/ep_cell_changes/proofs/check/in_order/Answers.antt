use Rattle.std.proofs.Common.{sym}
use Rattle.ep_cell_changes.specs.Tests.{AreInOrder}
use Rattle.std.proofs.Common.{subst}
use Rattle.ep_cell_changes.proofs.Checked.{put_in_order}
use Rattle.ep_cell_changes.proofs.check.in_order.Goals as goal

pub returns-then-are_in_order : goal.returns-then-are_in_order
returns-then-are_in_order g c =
    sym (put_in_order c.args.cells.items (subst AreInOrder c.deref.ensures.value (c.are_in_order.ensures.0
    c.if-are_in_order.true)))
