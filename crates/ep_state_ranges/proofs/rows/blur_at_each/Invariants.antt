use Rattle.std.proofs.Common.{◌≡◌, map, drop}
use Rattle.ep_cell_ranges.specs.Moves.{blurred_each}
use Rattle.ep_state_ranges.specs.HeldForms.{form_by_blur_each}
use Rattle.ep_state_ranges.proofs.rows.blur_at_each.Given as goal

abbrev pub invariant-loop-q : goal.invariant-loop-q
invariant-loop-q g l = record {
  state : blurred_each g.N.Num.ops l.side l.bytes (drop l.q-index l.spots) l.sofar.state
      ≡ blurred_each g.N.Num.ops l.side l.bytes l.spots l.fn.now.state;
  forms : map (form_by_blur_each l.side l.bytes (drop l.q-index l.spots)) l.sofar.forms.items
      ≡ map (form_by_blur_each l.side l.bytes l.spots) l.fn.now.forms.items;
}
