use Rattle.std.proofs.Common.{get_or, map, subst, arith}
use Rattle.ep_cells.specs.Weaken.{weakened}
use Rattle.ep_cell_ranges.specs.Moves.{weakened_each, form_by_weak_each}
use Rattle.ep_state_ranges.specs.HeldForms.{at_spot, FitsAtEach}
use Rattle.ep_state_ranges.proofs.Merging.{next}
use Rattle.ep_state_ranges.proofs.Rounds.{model_stays, weaken_turn, weaken_ends, weak_forms_turn, weak_forms_end}
use Rattle.ep_state_ranges.proofs.Rounds.{fits_first}
use Rattle.ep_state_ranges.proofs.rows.weaken_at_each.Goals as goal

pub weaken_at-requires-clause-fits : goal.weaken_at-requires-clause-fits
weaken_at-requires-clause-fits g c =
    (fits_first c.args.now.state.model c.loop-q.sofar.state.model c.args.c.now
    (get_or c.args.spots.now c.loop-q.q-index (0, 0)) c.args.spots.now c.loop-q.q-index c.loop-q.invariant.model
    (next c.args.spots.now c.loop-q.q-index (0, 0) c.loop-q-test.true) c.loop-q.invariant.fits).0

pub loop-q-preserved : goal.loop-q-preserved
loop-q-preserved g c =
    let e = next c.args.spots.now c.loop-q.q-index (0, 0) c.loop-q-test.true in
    let q = get_or c.args.spots.now c.loop-q.q-index (0, 0) in
    record {
      model = model_stays c.loop-q.sofar.state c.in_ok-next.next.state
          (weakened g.N.Num.ops c.loop-q.sofar.state.model (at_spot c.args.c.now q) c.args.shared_stays
          c.loop-q.sofar.state.cells) c.args.now.state.model c.in_ok-next.ensures.state c.loop-q.invariant.model;
      state = weaken_turn g.N.Num.ops c.args.c.now c.args.shared_stays q c.args.spots.now c.loop-q.q-index
          c.loop-q.sofar.state c.in_ok-next.next.state
          (weakened_each g.N.Num.ops (at_spot c.args.c.now) c.args.shared_stays c.args.spots.now c.args.now.state) e
          c.in_ok-next.ensures.state c.loop-q.invariant.state;
      forms = weak_forms_turn c.args.now.state.model c.loop-q.sofar.state.model c.args.c.now q c.args.spots.now
          c.loop-q.q-index c.loop-q.sofar.forms.items c.in_ok-next.next.forms.items
          (map (form_by_weak_each c.args.now.state.model (at_spot c.args.c.now) c.args.spots.now)
          c.args.now.forms.items) c.loop-q.invariant.model e c.in_ok-next.ensures.forms c.loop-q.invariant.forms;
      fits = (subst (FitsAtEach c.args.now.state.model c.args.c.now) e c.loop-q.invariant.fits).1;
    }

pub returns-clause-state : goal.returns-clause-state
returns-clause-state g c =
    weaken_ends g.N.Num.ops c.args.c.now c.args.shared_stays c.args.spots.now c.loop-q.q-index c.loop-q.sofar.state
    (weakened_each g.N.Num.ops (at_spot c.args.c.now) c.args.shared_stays c.args.spots.now c.args.now.state)
    (omega (arith, c.loop-q-test.false)) c.loop-q.invariant.state

pub returns-clause-forms : goal.returns-clause-forms
returns-clause-forms g c =
    weak_forms_end c.args.now.state.model c.args.c.now c.args.spots.now c.loop-q.q-index c.loop-q.sofar.forms.items
    (map (form_by_weak_each c.args.now.state.model (at_spot c.args.c.now) c.args.spots.now) c.args.now.forms.items)
    (omega (arith, c.loop-q-test.false)) c.loop-q.invariant.forms
