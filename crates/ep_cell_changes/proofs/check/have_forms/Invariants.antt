use Rattle.std.proofs.Common.{◌↔◌, drop}
use Rattle.ep_cells.specs.States.{HasForm, Each}
use Rattle.ep_cell_changes.proofs.check.have_forms.Given as goal

abbrev pub invariant-loop-c : goal.invariant-loop-c
invariant-loop-c g l = Each (HasForm l.cells) (drop l.c-index l.cells) ↔ Each (HasForm l.cells) l.cells
