use Rattle.std.proofs.lemmas.Int.{to_z-of_z}
use Rattle.ep_cert_cells.proofs.Ends.{of_is}
use Rattle.ep_cert_cells.proofs.numbers.congruence.Goals as goal

pub returns : goal.returns
returns c =
    let f = c.ranges.remainder in let g = c.ranges.modulus in
    let s = simp to_z-of_z at c.of.ensures.some in
    let v = simp to_z-of_z at c.of.ensures.value in
    of_is c.args.remainder c.args.modulus c.of.result s v
