use Rattle.std.proofs.Common.{get_or, map, arith}
use Rattle.ep_cell_ranges.specs.Moves.{blurred_each}
use Rattle.ep_state_ranges.specs.HeldForms.{form_by_blur_each}
use Rattle.ep_state_ranges.proofs.Merging.{next}
use Rattle.ep_state_ranges.proofs.Rounds.{blur_turn, blur_ends, blur_forms_turn, blur_forms_end}
use Rattle.ep_state_ranges.proofs.rows.blur_at_each.Goals as goal

pub loop-q-preserved : goal.loop-q-preserved
loop-q-preserved g c =
    let e = next c.args.spots.now c.loop-q.q-index (0, 0) c.loop-q-test.true in
    let q = get_or c.args.spots.now c.loop-q.q-index (0, 0) in
    record {
      state = blur_turn g.N.Num.ops c.args.side c.args.bytes q c.args.spots.now c.loop-q.q-index c.loop-q.sofar.state
          c.in_ok-next.next.state
          (blurred_each g.N.Num.ops c.args.side c.args.bytes c.args.spots.now c.args.now.state) e
          c.in_ok-next.ensures.state c.loop-q.invariant.state;
      forms = blur_forms_turn c.args.side c.args.bytes q c.args.spots.now c.loop-q.q-index c.loop-q.sofar.forms.items
          c.in_ok-next.next.forms.items
          (map (form_by_blur_each c.args.side c.args.bytes c.args.spots.now) c.args.now.forms.items) e
          c.in_ok-next.ensures.forms c.loop-q.invariant.forms;
    }

pub returns-clause-state : goal.returns-clause-state
returns-clause-state g c =
    blur_ends g.N.Num.ops c.args.side c.args.bytes c.args.spots.now c.loop-q.q-index c.loop-q.sofar.state
    (blurred_each g.N.Num.ops c.args.side c.args.bytes c.args.spots.now c.args.now.state)
    (omega (arith, c.loop-q-test.false)) c.loop-q.invariant.state

pub returns-clause-forms : goal.returns-clause-forms
returns-clause-forms g c =
    blur_forms_end c.args.side c.args.bytes c.args.spots.now c.loop-q.q-index c.loop-q.sofar.forms.items
    (map (form_by_blur_each c.args.side c.args.bytes c.args.spots.now) c.args.now.forms.items)
    (omega (arith, c.loop-q-test.false)) c.loop-q.invariant.forms
