use Rattle.std.proofs.Common.{arith}
use Rattle.ep_int.proofs.Basics.{size_positive}
use Rattle.ep_state_rows.proofs.rows.weaken_one.Goals as goal

pub further-requires : goal.further-requires
further-requires g c =
    let l = c.requires.fits.fits.last in
    let s = size_positive c.args.state.model c.args.c.now.what in omega (arith, l, s)
