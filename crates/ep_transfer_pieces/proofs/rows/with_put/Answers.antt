use Rattle.std.proofs.Common.{◌+◌, refl, arith}
use Rattle.std.proofs.lemmas.Result.{IfOk-weaker}
use Rattle.ep_int.proofs.Basics.{size_positive}
use Rattle.ep_transfer_places.specs.Room.{view}
use Rattle.ep_transfer_writes.specs.Waiting.{item_view}
use Rattle.ep_transfer_pieces.proofs.Holding.{put_stands, put_size, put_follows, item_fits, put_room}
use Rattle.ep_transfer_pieces.proofs.rows.with_put.Goals as goal

pub item_cell-requires-clause-item : goal.item_cell-requires-clause-item
item_cell-requires-clause-item g c =
    item_fits g.N.Num.ops c.args.now.state c.requires.fits.0 c.args.put.now c.requires.fits.1.0

pub item_cell-requires-clause-room : goal.item_cell-requires-clause-room
item_cell-requires-clause-room g c =
    let room = put_room g.N.Num.ops c.args.put.now.mode c.args.joint (view c.args.to.now)
    (item_view c.args.put.now.item) c.args.at.0 c.args.at.1 c.requires.fits.0 c.requires.runs c.requires.fits.1.1 in
    let ends = c.requires.fits.1.0.room in
    omega (arith, room, ends)

pub overflow_add-offset : goal.overflow_add-offset
overflow_add-offset g c =
    let room = put_room g.N.Num.ops c.args.put.now.mode c.args.joint (view c.args.to.now)
    (item_view c.args.put.now.item) c.args.at.0 c.args.at.1 c.requires.fits.0 c.requires.runs c.requires.fits.1.1 in
    let ends = c.requires.fits.1.0.room in
    let some = size_positive c.args.now.state.model c.args.put.now.what in
    omega (arith, room, ends, some)

pub with_next-requires-clause-stands : goal.with_next-requires-clause-stands
with_next-requires-clause-stands g c =
    put_stands g.N.Num.ops c.args.now.state c.args.at.0 c.args.at.1 c.requires.fits.0
    (c.args.at.1.1 + c.args.put.now.offset) c.args.put.now c.in_ok-cell.cell c.requires.fits.1.0
    c.in_ok-cell.ensures.value refl c.in_ok-cell.ensures.stands

pub with_next-requires-clause-size : goal.with_next-requires-clause-size
with_next-requires-clause-size g c =
    put_size g.N.Num.ops c.args.now.state.model c.model.result c.args.at.0 c.args.at.1 c.args.put.now c.in_ok-cell.cell
    c.size-size.result c.in_ok-cell.ensures.value c.model.ensures.value c.size-size.ensures.value

pub returns : goal.returns
returns g c =
    IfOk-weaker c.with_next.result _ _
    (λ r h. put_follows g.N.Num.ops c.replace_laws.ensures c.args.joint (view c.args.to.now) c.args.at.0 c.args.at.1
    c.args.put.now c.in_ok-cell.cell c.args.now r c.requires.runs c.in_ok-cell.ensures.value h) c.with_next.ensures
