use Rattle.std.proofs.Common.{refl}
use Rattle.ep_transfer_pieces.proofs.Holding.{first_goes}
use Rattle.ep_transfer_pieces.proofs.rows.with_first.Goals as goal

pub returns : goal.returns
returns g c =
    first_goes g.N.Num.ops c.args.now _ c.args.cell c.in_ok-state.state c.requires.cell c.in_ok-state.ensures.value
    c.in_ok-state.ensures.model refl refl refl refl c.requires.bytes c.in_ok-cells.ensures
