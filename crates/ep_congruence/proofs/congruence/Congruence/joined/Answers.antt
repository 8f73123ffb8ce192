use Rattle.std.proofs.Common.{◌≡◌, FitsSigned, rules, arith, ◌∙◌}
use Rattle.std.specs.Int.{w128}
use Rattle.std.proofs.lemmas.Int.{ints, to_z-of_z}
use Rattle.ep_congruence_laws.specs.Classes.{joined_modulus}
use Rattle.ep_congruence_laws.proofs.Operations.{join_class}
use Rattle.ep_congruence_domain.specs.Congruence.{class_of}
use Rattle.ep_congruence_domain.proofs.Formed.{same_valid}
use Rattle.ep_congruence.proofs.congruence.Congruence.joined.Goals as goal

pub reduced-requires : goal.reduced-requires
reduced-requires c =
    let l = c.remainder.ensures.low in let u = c.remainder.ensures.high in
    let g : FitsSigned w128 c.remainder.result = omega (arith, ints) in
    let m : c.gcd-modulus.result ≡ joined_modulus (class_of c.args.self.now) (class_of c.args.o.now) = search rules in
    same_valid _ c.args.self.now.remainder c.gcd-modulus.result (joined_modulus (class_of c.args.self.now) (class_of c.args.o.now))
    (to_z-of_z w128 c.remainder.result g ∙ c.remainder.ensures.value) m
    (join_class (class_of c.args.self.now) (class_of c.args.o.now) c.args.self.now.valid c.args.o.now.valid)
