use Rattle.std.proofs.Common.{sym, ◌∙◌}
use Rattle.ep_state_steps.specs.Met.{with_last}
use Rattle.ep_state_steps.proofs.Adjoining.{shared_skipped, place_added}
use Rattle.ep_state_steps.proofs.runs.with_cell.Goals as goal

pub returns-then-is_same_side : goal.returns-then-is_same_side
returns-then-is_same_side g c =
    shared_skipped c.args.model c.args.y.now c.args.places.now.items c.args.last
    (sym c.is_same_side.ensures ∙ c.if-is_same_side.true)

pub returns : goal.returns
returns g c =
    place_added c.args.model c.args.y.now c.place_of.result (with_last c.args.places.now.items c.args.last) _
    (sym c.is_same_side.ensures ∙ c.if-is_same_side.false) c.place_of.ensures c.in_ok-u.ensures
