use Rattle.std.proofs.Common.{arith}
use Rattle.std.proofs.lemmas.Int.{ints, to_z-of_z}
use Rattle.ep_congruence.proofs.Machine.{of_code, of_parts}
use Rattle.ep_congruence.proofs.congruence.Congruence.of.Goals as goal

pub returns-else-modulus-lt0-clause-some : goal.returns-else-modulus-lt0-clause-some
returns-else-modulus-lt0-clause-some c =
    let f = c.ranges.remainder in let g = c.ranges.modulus in
    let u = simp to_z-of_z at c.unsigned_abs.ensures.value in
    let e = simp to_z-of_z at c.formed.ensures in
    of_code c.args.remainder c.args.modulus c.unsigned_abs.result c.formed.result (omega (arith, ints)) u e

pub returns-else-modulus-lt0-clause-value : goal.returns-else-modulus-lt0-clause-value
returns-else-modulus-lt0-clause-value c =
    let f = c.ranges.remainder in let g = c.ranges.modulus in
    let u = simp to_z-of_z at c.unsigned_abs.ensures.value in
    let e = simp to_z-of_z at c.formed.ensures in
    of_parts c.args.remainder c.args.modulus c.unsigned_abs.result c.formed.result (omega (arith, ints)) u e
