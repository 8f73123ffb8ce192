use Rattle.std.proofs.Common.{arith}
use Rattle.ep_frames.proofs.leaving.write_byte.Goals as goal

pub overflow_add-rest : goal.overflow_add-rest
overflow_add-rest c =
    let s = c.requires.fits.small in
    let k = c.requires.fits.some in
    record { fits = omega (arith, s, k) }
