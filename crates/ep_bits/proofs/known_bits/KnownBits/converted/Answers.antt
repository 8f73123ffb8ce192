use Rattle.std.proofs.Common.{FitsSigned, rules, arith, sym, ◌∙◌}
use Rattle.ep_int.proofs.Arithmetic.{in_range_some_type}
use Rattle.std.specs.Int.{w128}
use Rattle.std.proofs.lemmas.Int.{ints, to_z-of_z}
use Rattle.ep_bits.proofs.Machine.{converted_one}
use Rattle.ep_bits.proofs.known_bits.KnownBits.converted.Goals as goal

pub exactly-requires : goal.exactly-requires
exactly-requires c = let n = in_range_some_type c.args.t c.wrap.result c.wrap.ensures.in_range in let p = n.low in let q =
    n.high in record { low = omega (arith, ints); high = omega (arith, ints) }

pub returns-then-is_one : goal.returns-then-is_one
returns-then-is_one c =
    let f : FitsSigned w128 c.wrap.result = search rules in
    let g : FitsSigned w128 c.number_of.result = search rules in
    let e = simp to_z-of_z at c.exactly.ensures in
    let w = simp to_z-of_z at c.wrap.ensures.value in
    converted_one c.args.self.now c.exactly.result c.args.t c.wrap.result c.number_of.result
    (sym c.is_one.ensures ∙ c.if-is_one.true) e w c.number_of.ensures
