use Rattle.std.proofs.Common.{◌≡◌, ◌-ℤ◌, ◌&&◌, true, FitsSigned, ap, sym, ◌∙◌, arith}
use Rattle.std.specs.Int.{w128}
use Rattle.std.proofs.lemmas.Int.{ints, to_z-of_z}
use Rattle.ep_int.specs.declared.types.IntType.TheVariants.{I64, U64}
use Rattle.ep_int.specs.Types.{least_of, greatest_of}
use Rattle.ep_range_laws.proofs.Comparisons.{from_between}
use Rattle.ep_congruence_laws.specs.Multiples.{is_multiple}
use Rattle.ep_congruence_laws.specs.Classes.{is_number}
use Rattle.ep_congruence_domain.specs.Congruence.{Congruence}
use Rattle.ep_congruence.proofs.congruence.CongruenceNum.holds.Goals as goal

pub returns-then-is_number : goal.returns-then-is_number
returns-then-is_number c =
    let k = c.args.self.now in let v = c.args.v in
    let f = c.ranges.v in
    let i = simp to_z-of_z at c.is_number.ensures in
    let n : is_number v ≡ true = sym i ∙ c.if-is_number.true in
    let b = from_between (least_of I64) v v (greatest_of U64) n in let p = b.0 in let q = b.1 in
    let l = c.remainder.ensures.low in let h = c.remainder.ensures.high in
    let r : FitsSigned w128 c.remainder.result = omega (arith, ints) in
    let d : FitsSigned w128 (v -ℤ c.remainder.result) = omega (arith, ints) in
    let e = simp to_z-of_z at c.is_multiple.ensures in
    e ∙ ap (λ (a : Congruence). is_multiple a.modulus (v -ℤ c.remainder.result)) c.self.view_is ∙ ap (λ z. is_multiple k.modulus (v -ℤ z)) c.remainder.ensures.value ∙ sym (ap (λ t. t && is_multiple k.modulus (v -ℤ k.remainder)) n)
