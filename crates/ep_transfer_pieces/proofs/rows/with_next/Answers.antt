use Rattle.std.proofs.Common.{◌+◌, ◌∙◌, ap}
use Rattle.ep_transfer_pieces.proofs.Holding.{can_go, next_stands}
use Rattle.ep_transfer_pieces.proofs.rows.with_next.Goals as goal

pub with_first-requires-clause-cell : goal.with_first-requires-clause-cell
with_first-requires-clause-cell g c =
    can_go c.args.now.state.model c.args.side c.args.spot.0 c.args.spot.1 c.args.cell c.requires.stands

pub with_cell-requires-clause-stands : goal.with_cell-requires-clause-stands
with_cell-requires-clause-stands g c =
    let there = rw c.in-Some.is at c.bytes_with.ensures.there in
    next_stands c.args.now.state.model c.args.side c.args.spot c.args.now c.args.cell there c.requires.stands

pub with_cell-requires-clause-bytes : goal.with_cell-requires-clause-bytes
with_cell-requires-clause-bytes g c =
    let bytes = rw c.in-Some.is at c.bytes_with.ensures.bytes in
    bytes ∙ ap (λ z. c.args.now.bytes + z) c.requires.size
