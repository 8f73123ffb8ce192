use Rattle.std.proofs.Common.{◌≡◌, ◌++◌, map}
use Rattle.std.specs.Vec.Iter.{into_iter_items}
use Rattle.ep_cells.specs.Forms.{form_after}
use Rattle.ep_cell_ranges.specs.Ranges.{with_form}
use Rattle.ep_bicells.specs.Steps.{fate_of_step}
use Rattle.ep_state_ranges.proofs.forms.cells_by_step.Given as goal

abbrev pub invariant-loop-c : goal.invariant-loop-c
invariant-loop-c g l =
    l.out.items ++ map (with_form (form_after (fate_of_step l.model l.step))) (into_iter_items l.c-iterator)
    ≡ map (with_form (form_after (fate_of_step l.model l.step))) l.fn.cells.items
