use Rattle.std.proofs.Common.{refl}
use Rattle.ep_transfer_pieces.proofs.Holding.{cell_goes}
use Rattle.ep_transfer_pieces.proofs.rows.with_cell.Goals as goal

pub returns : goal.returns
returns g c =
    cell_goes g.N.Num.ops c.args.now _ c.args.cell c.requires.ready c.requires.stands refl refl refl refl
    c.requires.bytes c.in_ok-push.ensures
