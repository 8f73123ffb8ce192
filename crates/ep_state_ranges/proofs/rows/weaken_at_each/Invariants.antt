use Rattle.std.proofs.Common.{◌≡◌, map, drop}
use Rattle.ep_cell_ranges.specs.Moves.{weakened_each, form_by_weak_each}
use Rattle.ep_state_ranges.specs.HeldForms.{at_spot, FitsAtEach}
use Rattle.ep_state_ranges.proofs.rows.weaken_at_each.Given as goal

abbrev pub invariant-loop-q : goal.invariant-loop-q
invariant-loop-q g l = record {
  model : l.sofar.state.model ≡ l.fn.now.state.model;
  state : weakened_each g.N.Num.ops (at_spot l.c) l.shared_stays (drop l.q-index l.spots) l.sofar.state
      ≡ weakened_each g.N.Num.ops (at_spot l.c) l.shared_stays l.spots l.fn.now.state;
  forms : map (form_by_weak_each l.fn.now.state.model (at_spot l.c) (drop l.q-index l.spots)) l.sofar.forms.items
      ≡ map (form_by_weak_each l.fn.now.state.model (at_spot l.c) l.spots) l.fn.now.forms.items;
  fits : FitsAtEach l.fn.now.state.model l.c (drop l.q-index l.spots);
}
