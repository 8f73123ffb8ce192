use Rattle.std.proofs.Common.{◌≡◌, ◌^◌, FitsSigned, nat_eq, false, cond, rules, arith, ap, sym, ◌∙◌}
use Rattle.ep_int.proofs.Arithmetic.{in_range_some_type}
use Rattle.std.specs.Int.{w128}
use Rattle.std.proofs.lemmas.Int.{ints, to_z-of_z}
use Rattle.ep_int.specs.Types.{bits_of, wrapped}
use Rattle.ep_congruence_laws.specs.Multiples.{gcd}
use Rattle.ep_congruence_laws.specs.Classes.{one, reduced}
use Rattle.ep_congruence_laws.proofs.Cuts.{turned_class}
use Rattle.ep_congruence_domain.specs.Congruence.{class_of}
use Rattle.ep_congruence_domain.proofs.Formed.{same_valid, same_reduced}
use Rattle.ep_congruence.proofs.Machine.{gcd_shown}
use Rattle.ep_congruence.proofs.congruence.Congruence.converted.Goals as goal

pub one-requires : goal.one-requires
one-requires c = let n = in_range_some_type c.args.t c.wrap.result c.wrap.ensures.in_range in let p = n.low in let q = n.high in record { low = omega (arith, ints); high = omega (arith, ints) }

pub reduced-requires : goal.reduced-requires
reduced-requires c =
    let l = c.remainder-else-is_one.ensures.low in let u = c.remainder-else-is_one.ensures.high in
    let g : FitsSigned w128 c.remainder-else-is_one.result = omega (arith, ints) in
    same_valid _ c.args.self.now.remainder c.gcd.result (gcd c.args.self.now.modulus (2 ^ bits_of c.args.t))
    (to_z-of_z w128 c.remainder-else-is_one.result g ∙ c.remainder-else-is_one.ensures.value) (c.gcd.ensures ∙ gcd_shown c.turn.result c.self.view_is ∙ ap (gcd c.args.self.now.modulus) c.turn.ensures)
    (turned_class (class_of c.args.self.now) c.args.t c.args.self.now.valid)

pub returns-else-is_one : goal.returns-else-is_one
returns-else-is_one c =
    let l = c.remainder-else-is_one.ensures.low in let u = c.remainder-else-is_one.ensures.high in
    let g : FitsSigned w128 c.remainder-else-is_one.result = omega (arith, ints) in
    let h : nat_eq c.args.self.now.modulus 0 ≡ false = search rules in
    c.reduced.ensures
    ∙ same_reduced _ c.args.self.now.remainder c.gcd.result (gcd c.args.self.now.modulus (2 ^ bits_of c.args.t))
    (to_z-of_z w128 c.remainder-else-is_one.result g ∙ c.remainder-else-is_one.ensures.value) (c.gcd.ensures ∙ gcd_shown c.turn.result c.self.view_is ∙ ap (gcd c.args.self.now.modulus) c.turn.ensures)
    ∙ sym (ap (λ b. cond b (one (wrapped c.args.t c.args.self.now.remainder)) (reduced c.args.self.now.remainder (gcd c.args.self.now.modulus (2 ^ bits_of c.args.t)))) h)
