use Rattle.std.proofs.Common.{◌≡◌, ◌*ℤ◌, FitsSigned, ap, sym, ◌∙◌, subst, arith}
use Rattle.std.specs.Int.{w128}
use Rattle.std.proofs.lemmas.Int.{ints, to_z-of_z}
use Rattle.ep_congruence_laws.specs.Classes.{reduced}
use Rattle.ep_congruence_domain.specs.Congruence.{class_of, formed}
use Rattle.ep_congruence.proofs.Machine.{at_small, at_great}
use Rattle.ep_congruence.proofs.results.product_at.Goals as goal

pub returns-then-modulus-le-GREATEST_MODULUS : goal.returns-then-modulus-le-GREATEST_MODULUS
returns-then-modulus-le-GREATEST_MODULUS c =
    let a = class_of c.args.x.now in let b = class_of c.args.y.now in
    let x = c.remainder.result in let y = c.remainder-then-modulus-le-GREATEST_MODULUS.result in
    let rl = c.remainder.ensures.low in let rh = c.remainder.ensures.high in
    let sl = c.remainder-then-modulus-le-GREATEST_MODULUS.ensures.low in let sh = c.remainder-then-modulus-le-GREATEST_MODULUS.ensures.high in
    let r : FitsSigned w128 x = omega (arith, ints) in
    let s : FitsSigned w128 y = omega (arith, ints) in
    let q : x *ℤ y ≡ a.remainder *ℤ b.remainder = ap (λ z. z *ℤ y) c.remainder.ensures.value ∙ ap (λ z. a.remainder *ℤ z) c.remainder-then-modulus-le-GREATEST_MODULUS.ensures.value in
    let p : FitsSigned w128 (x *ℤ y) = subst (FitsSigned w128) (sym q) c.requires in
    let d = simp to_z-of_z at c.reduced.ensures in
    d ∙ ap (λ z. formed (reduced z c.args.modulus)) q ∙ sym (ap formed (at_small c.args.t a b c.args.modulus (omega arith)))

pub returns-else-modulus-le-GREATEST_MODULUS : goal.returns-else-modulus-le-GREATEST_MODULUS
returns-else-modulus-le-GREATEST_MODULUS c = c.past_limits.ensures ∙ sym (ap formed (at_great c.args.t (class_of c.args.x.now) (class_of c.args.y.now) c.args.modulus (omega arith)))
