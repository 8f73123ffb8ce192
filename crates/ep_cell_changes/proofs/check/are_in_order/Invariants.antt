use Rattle.std.proofs.Common.{◌↔◌, ◌-◌, drop}
use Rattle.ep_cell_changes.specs.Tests.{AreInOrder}
use Rattle.ep_cell_changes.proofs.check.are_in_order.Given as goal

abbrev pub invariant-loop-i : goal.invariant-loop-i
invariant-loop-i g l = AreInOrder (drop (l.i - 1) l.cells) ↔ AreInOrder l.cells
