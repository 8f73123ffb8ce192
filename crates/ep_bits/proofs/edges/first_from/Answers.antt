use Rattle.std.proofs.Common.{pos, ◌+ℤ◌, FitsSigned, arith}
use Rattle.std.specs.Int.{w128}
use Rattle.std.proofs.lemmas.Int.{ints, to_z-of_z}
use Rattle.ep_bits.proofs.Machine.{from_negative}
use Rattle.ep_bits.proofs.edges.first_from.Goals as goal

pub returns-in-None : goal.returns-in-None
returns-in-None c =
    let a = c.args in
    let f = c.ranges.lo in
    let l = c.requires.low in let h = c.requires.high in
    let g : FitsSigned w128 (a.lo +ℤ pos 18446744073709551616) = omega (arith, ints) in
    let u = simp to_z-of_z at c.unsigned_abs-2.ensures.value in
    let n = simp to_z-of_z at c.if-lo-ge0.false in
    from_negative a.lo a.zeros a.ones c.unsigned_abs-2.result c.least_positive.result c.first_negative.result n u l
    c.first_negative.ensures c.in-None.is (c.least_positive.ensures a.zeros)
