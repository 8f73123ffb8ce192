use Rattle.std.proofs.Common.{◌≡◌, ◌++◌, map}
use Rattle.std.specs.Vec.Iter.{into_iter_items}
use Rattle.ep_cells.specs.Forms.{form_after}
use Rattle.ep_cell_rows.specs.Parts.{fate_of}
use Rattle.ep_state_ranges.proofs.forms.changed.Given as goal

abbrev pub invariant-loop-f : goal.invariant-loop-f
invariant-loop-f l =
    l.out.items ++ map (form_after (fate_of l.change)) (into_iter_items l.f-iterator)
    ≡ map (form_after (fate_of l.change)) l.fn.held.items
