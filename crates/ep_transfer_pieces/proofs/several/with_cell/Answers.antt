use Rattle.std.proofs.Common.{refl}
use Rattle.ep_transfer_pieces.proofs.AtEach.{cell_goes}
use Rattle.ep_transfer_pieces.proofs.several.with_cell.Goals as goal

pub returns : goal.returns
returns g c =
    cell_goes g.N.Num.ops c.args.room c.args.spots.now c.args.now _ c.args.cell c.requires.ready c.requires.stands refl
    refl c.requires.bytes c.in_ok-push.ensures
