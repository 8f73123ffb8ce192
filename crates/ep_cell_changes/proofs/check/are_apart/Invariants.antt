use Rattle.std.proofs.Common.{◌↔◌, drop}
use Rattle.ep_cells.specs.States.{AreApart, EachPair}
use Rattle.ep_cell_changes.specs.Tests.{AreInOrder}
use Rattle.ep_cell_changes.proofs.check.are_apart.Given as goal

abbrev pub invariant-loop-i : goal.invariant-loop-i
invariant-loop-i g l = record {
  rest : EachPair (AreApart l.model) (drop l.i l.cells) ↔ EachPair (AreApart l.model) l.cells;
  order : AreInOrder (drop l.i l.cells);
}
