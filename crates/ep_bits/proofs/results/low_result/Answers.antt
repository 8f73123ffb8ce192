use Rattle.std.proofs.Common.{FitsSigned, rules}
use Rattle.std.specs.Int.{w128}
use Rattle.std.proofs.lemmas.Int.{to_z-of_z}
use Rattle.ep_bit_domain.specs.KnownBits.{pattern_of}
use Rattle.ep_bits.proofs.Machine.{seen, low_result_code}
use Rattle.ep_bits.proofs.results.low_result.Goals as goal

pub returns-clause-value : goal.returns-clause-value
returns-clause-value c =
    let a = seen c.x.inside in let b = seen c.y.inside in
    let f : FitsSigned w128 c.exact-exact.result = search rules in
    let u = simp to_z-of_z at c.cast_unsigned.ensures in
    rw (← c.x.view_is, ← c.y.view_is) (low_result_code c.args.op c.args.n (pattern_of a)
    (pattern_of b) c.low.result c.low-2.result c.low-3.result c.cast_unsigned.result c.exact-exact.result
    c.requires f c.low-3.ensures.value u c.exact-exact.ensures c.low.ensures.value c.low-2.ensures.value)
