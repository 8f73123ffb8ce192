use Rattle.std.proofs.Common.{◌≡◌, ◌++◌, map}
use Rattle.std.specs.Vec.Iter.{into_iter_items}
use Rattle.ep_cells.specs.Forms.{form_after}
use Rattle.ep_bicells.specs.Steps.{fate_of_step}
use Rattle.ep_state_ranges.proofs.forms.all_by_step.Given as goal

abbrev pub invariant-loop-f : goal.invariant-loop-f
invariant-loop-f g l =
    l.out.items ++ map (form_after (fate_of_step l.model l.step)) (into_iter_items l.f-iterator)
    ≡ map (form_after (fate_of_step l.model l.step)) l.fn.held.items
