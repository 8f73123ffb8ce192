use Rattle.std.proofs.Common.{arith, sym, ◌∙◌}
use Rattle.ep_int.proofs.Arithmetic.{in_range_some_type}
use Rattle.std.proofs.lemmas.Int.{ints, to_z-of_z}
use Rattle.ep_int.proofs.Arithmetic.{arith_in_range}
use Rattle.ep_bits.proofs.operators.single_result.Goals as goal

pub exactly-requires : goal.exactly-requires
exactly-requires c =
    let a = c.args in
    let f = c.ranges.x in let g = c.ranges.y in
    let e = simp to_z-of_z at c.arith.ensures in
    let n = in_range_some_type a.t c.in-Ok.v (arith_in_range a.op a.t a.x a.y c.in-Ok.v c.requires.left (sym e ∙ c.in-Ok.is)) in
    let p = n.low in let q = n.high in record { low = omega (arith, ints); high = omega (arith, ints) }
