use Rattle.std.proofs.Common.{FitsSigned, sym, ◌∙◌, rules}
use Rattle.std.specs.Int.{w128}
use Rattle.std.proofs.lemmas.Int.{to_z-of_z}
use Rattle.ep_congruence_domain.specs.Congruence.{class_of}
use Rattle.ep_congruence.proofs.Machine.{shifted_code, unshifted_code}
use Rattle.ep_congruence.proofs.results.shifted_of.Goals as goal

pub returns-in-Some : goal.returns-in-Some
returns-in-Some c =
    let f : FitsSigned w128 c.power_of_two.result = search rules in
    let k = simp to_z-of_z at c.one.ensures in
    shifted_code c.args.t (class_of c.args.x.now) (class_of c.args.y.now) (class_of c.one.result) c.product_of.result c.in-Some.n c.power_of_two.result (sym c.amount.ensures.value ∙ c.in-Some.is) c.product_of.ensures k c.power_of_two.ensures

pub returns-in-None : goal.returns-in-None
returns-in-None c = unshifted_code c.args.t (class_of c.args.x.now) (class_of c.args.y.now) c.formed.result (sym c.amount.ensures.value ∙ c.in-None.is) c.formed.ensures
