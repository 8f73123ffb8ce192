use Rattle.std.proofs.Common.{◌↔◌, ◌∷◌, drop}
use Rattle.ep_cells.specs.States.{AreApart, Each}
use Rattle.ep_cell_changes.specs.Tests.{AreInOrder}
use Rattle.ep_cell_changes.proofs.check.is_apart.Given as goal

abbrev pub invariant-loop-y : goal.invariant-loop-y
invariant-loop-y g l = record {
  rest : Each (AreApart l.model l.x) (drop l.y-index l.rest) ↔ Each (AreApart l.model l.x) l.rest;
  order : AreInOrder (l.x ∷ drop l.y-index l.rest);
}
