use Rattle.std.proofs.Common.{◌↔◌, drop}
use Rattle.ep_cells.specs.States.{IsCell, Each}
use Rattle.ep_cell_changes.proofs.check.each_is_cell.Given as goal

abbrev pub invariant-loop-c : goal.invariant-loop-c
invariant-loop-c g l = Each (IsCell l.model) (drop l.c-index l.cells) ↔ Each (IsCell l.model) l.cells
