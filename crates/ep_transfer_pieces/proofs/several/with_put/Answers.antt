use Rattle.std.proofs.Common.{arith}
use Rattle.std.proofs.lemmas.Result.{IfOk-weaker}
use Rattle.ep_transfer_places.specs.Room.{view}
use Rattle.ep_transfer_pieces.proofs.Holding.{item_fits}
use Rattle.ep_transfer_pieces.proofs.AtEach.{put_stands, put_size, put_follows}
use Rattle.ep_transfer_pieces.proofs.several.with_put.Goals as goal

pub item_cell-requires-clause-item : goal.item_cell-requires-clause-item
item_cell-requires-clause-item g c =
    item_fits g.N.Num.ops c.args.now.state c.args.room c.args.put.now c.requires.fits

pub item_cell-requires-clause-room : goal.item_cell-requires-clause-room
item_cell-requires-clause-room g c =
    let room = c.requires.fits.room in
    let fits = c.ranges.room.fits in omega (arith, room, fits)

pub with_next-requires-clause-stands : goal.with_next-requires-clause-stands
with_next-requires-clause-stands g c =
    put_stands g.N.Num.ops c.args.now.state c.args.joint (view c.args.to.now) c.args.room c.args.spots.now
    c.args.put.now c.in_ok-cell.cell c.requires.several c.requires.fits c.in_ok-cell.ensures.value
    c.in_ok-cell.ensures.stands

pub with_next-requires-clause-size : goal.with_next-requires-clause-size
with_next-requires-clause-size g c =
    put_size g.N.Num.ops c.args.now.state.model c.model.result c.args.put.now c.in_ok-cell.cell c.size-size.result
    c.in_ok-cell.ensures.value c.model.ensures.value c.size-size.ensures.value

pub returns : goal.returns
returns g c =
    IfOk-weaker c.with_next.result _ _
    (λ r h. put_follows g.N.Num.ops c.args.joint (view c.args.to.now) c.args.room c.args.spots.now c.args.put.now
    c.in_ok-cell.cell c.args.now r c.requires.several c.requires.together c.requires.fits c.in_ok-cell.ensures.value h)
    c.with_next.ensures
