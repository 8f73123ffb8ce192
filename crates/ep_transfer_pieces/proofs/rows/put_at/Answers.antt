use Rattle.std.proofs.Common.{◌+◌, ap, sym, ◌∙◌, subst, arith}
use Rattle.ep_int.proofs.Basics.{size_positive}
use Rattle.ep_int.specs.Types.{size_of}
use Rattle.ep_cell_ranges.specs.Follow.{FormFits}
use Rattle.ep_transfers.specs.Writes as spec
use Rattle.ep_transfer_places.specs.Room.{BothHaveRoom, view}
use Rattle.ep_transfer_places.proofs.Moving.{less_both, moved_both}
use Rattle.ep_transfer_writes.specs.Waiting.{item_view}
use Rattle.ep_transfer_pieces.proofs.rows.put_at.Goals as goal

pub moved_places-requires : goal.moved_places-requires
moved_places-requires g c =
    let room = c.requires.fits.1.0.room in
    let some = size_positive c.args.state.model c.args.put.what in
    less_both c.requires.fits.0 (c.args.put.offset + 1) (view c.args.to.now) (omega (arith, room, some))
    c.requires.fits.1.1

pub write-requires-clause-item : goal.write-requires-clause-item
write-requires-clause-item g c =
    let f = c.requires.fits.1.0 in
    let fits = FormFits c.args.state.cells c.args.put.what in
    record {
      left = record { sort = f.left; form = subst fits (sym f.left_form) tt };
      right = record { sort = f.right; form = subst fits (sym f.right_form) tt };
    }

pub write-requires-clause-room : goal.write-requires-clause-room
write-requires-clause-room g c =
    let size = size_of c.args.state.model c.args.put.what in
    subst (BothHaveRoom size) (sym c.in_ok-moved.ensures)
    (moved_both c.args.put.offset size (view c.args.to.now)
    (less_both c.requires.fits.0 (c.args.put.offset + size) (view c.args.to.now) c.requires.fits.1.0.room
    c.requires.fits.1.1))

pub returns-clause-value : goal.returns-clause-value
returns-clause-value g c =
    ap (λ (u : spec.Underway _). u.known)
    (c.in_ok-after.ensures.value
    ∙ ap (λ ps. spec.write g.N.Num.ops c.args.put.mode c.args.joint c.args.put.what ps
    (spec.underway c.args.state (item_view c.args.put.item)))
    c.in_ok-moved.ensures)

pub returns-clause-model : goal.returns-clause-model
returns-clause-model g c = c.in_ok-after.ensures.keeps.model
