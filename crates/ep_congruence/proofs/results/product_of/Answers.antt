use Rattle.std.proofs.Common.{ℤ, ◌*ℤ◌, ap, sym, ◌∙◌}
use Rattle.std.specs.Prelude.{int_lt}
use Rattle.std.proofs.lemmas.Int.{to_z-of_z}
use Rattle.ep_int.specs.Types.{greatest_of}
use Rattle.ep_domain.proofs.FaultCode.{fits_number}
use Rattle.ep_congruence_laws.specs.Results.{ends_of}
use Rattle.ep_congruence_domain.specs.Congruence.{class_of}
use Rattle.ep_congruence.proofs.Machine.{products_fit, product_code, past_code}
use Rattle.ep_congruence.proofs.results.product_of.Goals as goal

pub product_at-requires : goal.product_at-requires
product_at-requires c = products_fit (class_of c.args.x.now) (class_of c.args.y.now) c.in-Some.divisor c.args.x.now.valid c.args.y.now.valid c.requires (sym c.common_divisor.ensures ∙ c.in-Some.is)

pub returns-in-Some : goal.returns-in-Some
returns-in-Some c =
    let a = class_of c.args.x.now in let b = class_of c.args.y.now in
    let p = fits_number c.ends_of.result.1 c.ends_of.ensures.high in
    let q = fits_number c.ends_of-2.result.1 c.ends_of-2.ensures.high in
    let l = simp to_z-of_z at c.product_leaves-leaves.ensures in
    product_code c.args.t a b c.product_at.result c.kept_modulus.result c.in-Some.divisor c.product_leaves-leaves.result (sym c.common_divisor.ensures ∙ c.in-Some.is) c.product_at.ensures c.kept_modulus.ensures
    (l ∙ ap (λ (e : ℤ × ℤ). int_lt (greatest_of c.args.t) (e.1 *ℤ c.ends_of-2.result.1)) c.ends_of.ensures.value
    ∙ ap (λ (e : ℤ × ℤ). int_lt (greatest_of c.args.t) ((ends_of c.args.t a).1 *ℤ e.1)) c.ends_of-2.ensures.value)

pub returns-in-None : goal.returns-in-None
returns-in-None c = past_code c.args.t (class_of c.args.x.now) (class_of c.args.y.now) c.past_limits.result (sym c.common_divisor.ensures ∙ c.in-None.is) c.past_limits.ensures
