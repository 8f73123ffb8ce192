use Rattle.ep_cells.specs.States.{Each, AreApart}
use Rattle.ep_cell_changes.proofs.Turns.{next_cell}
use Rattle.ep_cell_changes.proofs.Checked.{past_ends, past_at}
use Rattle.ep_cell_changes.proofs.check.is_apart.Goals as goal

pub returns-then-is_past : goal.returns-then-is_past
returns-then-is_past g c =
    past_ends c.args.model (Each (AreApart c.args.model c.args.x.now) c.args.rest.now) c.args.x.now c.y-item.result _ _
    (next_cell c.args.rest.now c.loop-y.y-index c.y-item.result c.loop-y-test.true c.y-item.is) c.loop-y.invariant.order
    (past_at c.args.model c.args.x.now c.y-item.result c.place_of-place.result c.is_past.result c.place_of-place.ensures
    c.is_past.ensures c.if-is_past.true)
    c.loop-y.invariant.rest
