use Rattle.std.proofs.Common.{ℤ, ◌-ℤ◌, FitsSigned, ap, ◌∙◌, rules, arith}
use Rattle.ep_int.proofs.Arithmetic.{difference_fits}
use Rattle.std.specs.Prelude.{int_lt}
use Rattle.std.specs.Int.{w128}
use Rattle.std.proofs.lemmas.Int.{ints, to_z-of_z}
use Rattle.ep_int.specs.Types.{least_of}
use Rattle.ep_domain.proofs.FaultCode.{fits_number}
use Rattle.ep_congruence_laws.specs.Results.{ends_of}
use Rattle.ep_congruence_domain.specs.Congruence.{class_of}
use Rattle.ep_congruence.proofs.Machine.{gcd_both, results_code}
use Rattle.ep_congruence.proofs.results.difference.Goals as goal

pub returns : goal.returns
returns c =
    let a = class_of c.args.x.now in let b = class_of c.args.y.now in
    let rl = c.remainder.ensures.low in let rh = c.remainder.ensures.high in
    let sl = c.remainder-2.ensures.low in let sh = c.remainder-2.ensures.high in
    let r : FitsSigned w128 c.remainder.result = omega (arith, ints) in
    let s : FitsSigned w128 c.remainder-2.result = omega (arith, ints) in
    let rs : FitsSigned w128 (c.remainder.result -ℤ c.remainder-2.result) = omega (arith, ints) in
    let g : FitsSigned w128 c.least.result = search rules in
    let p = fits_number c.ends_of.result.0 c.ends_of.ensures.low in
    let q = fits_number c.ends_of-2.result.1 c.ends_of-2.ensures.high in
    let pq = difference_fits c.ends_of.result.0 c.ends_of-2.result.1 c.ends_of.ensures.low c.ends_of-2.ensures.high in
    let d = simp to_z-of_z at c.reduced.ensures in
    let k = simp to_z-of_z at c.kept_modulus.ensures in
    results_code c.args.t c.reduced.result (c.remainder.result -ℤ c.remainder-2.result) (a.remainder -ℤ b.remainder) c.limited-modulus.result c.kept_modulus.result c.gcd.result _
    (int_lt (c.ends_of.result.0 -ℤ c.ends_of-2.result.1) c.least.result) _ d
    (ap (λ z. z -ℤ c.remainder-2.result) c.remainder.ensures.value ∙ ap (λ z. a.remainder -ℤ z) c.remainder-2.ensures.value)
    c.limited-modulus.ensures.value k (c.gcd.ensures ∙ gcd_both c.x.view_is c.y.view_is)
    (ap (λ z. int_lt (c.ends_of.result.0 -ℤ c.ends_of-2.result.1) z) c.least.ensures
    ∙ ap (λ (e : ℤ × ℤ). int_lt (e.0 -ℤ c.ends_of-2.result.1) (least_of c.args.t)) c.ends_of.ensures.value
    ∙ ap (λ (e : ℤ × ℤ). int_lt ((ends_of c.args.t a).0 -ℤ e.1) (least_of c.args.t)) c.ends_of-2.ensures.value)
