use Rattle.std.proofs.Common.{refl}
use Rattle.ep_transfer_pieces.proofs.AtEach.{first_goes}
use Rattle.ep_transfer_pieces.proofs.several.with_first.Goals as goal

pub returns : goal.returns
returns g c =
    first_goes g.N.Num.ops c.args.room c.args.offset c.args.spots.now c.args.now _ c.args.cell c.in_ok-state.state
    c.requires.stands c.in_ok-state.ensures.value c.in_ok-state.ensures.model refl refl c.requires.bytes
    c.in_ok-cells.ensures
