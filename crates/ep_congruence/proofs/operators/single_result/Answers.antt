use Rattle.std.proofs.Common.{FitsSigned, ap, sym, ◌∙◌, rules}
use Rattle.std.specs.Int.{w128}
use Rattle.std.specs.Option.{option_and_then}
use Rattle.std.proofs.lemmas.Int.{to_z-of_z}
use Rattle.ep_congruence_laws.specs.Results.{single_result}
use Rattle.ep_congruence_domain.specs.Congruence.{formed}
use Rattle.ep_congruence.proofs.operators.single_result.Goals as goal

pub returns-in-Ok : goal.returns-in-Ok
returns-in-Ok c =
    let p = c.ranges.x in let q = c.ranges.y in
    let v : FitsSigned w128 c.in-Ok.v = search rules in
    let m = simp to_z-of_z at c.arith.ensures in
    let d = simp to_z-of_z at c.formed.ensures in
    d ∙ ap (λ r. option_and_then formed (single_result r)) (sym c.in-Ok.is ∙ m)
