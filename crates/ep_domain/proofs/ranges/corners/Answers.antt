use Rattle.std.proofs.Common.{rules, FitsSigned, ◌∙◌}
use mir.Syntax.{w128}
use Rattle.std.proofs.lemmas.Int.{to_z-of_z}
use Rattle.ep_domain.proofs.FaultCode.{pair_same, least_is, greatest_is}
use Rattle.ep_domain.proofs.ranges.corners.Goals as goal

pub returns : goal.returns
returns c =
    let r = c.args in
    let f1 = c.ranges.a in let f2 = c.ranges.b in let f3 = c.ranges.c in let f4 = c.ranges.d in
    let m1 = simp to_z-of_z at c.min.ensures.value in
    let m2 = simp to_z-of_z at c.min-2.ensures.value in
    let g1 = simp to_z-of_z at c.max.ensures.value in
    let g2 = simp to_z-of_z at c.max-2.ensures.value in
    let n1 : FitsSigned w128 c.min.result = search rules in
    let n2 : FitsSigned w128 c.min-2.result = search rules in
    let n3 : FitsSigned w128 c.min-3.result = search rules in
    let k1 : FitsSigned w128 c.max.result = search rules in
    let k2 : FitsSigned w128 c.max-2.result = search rules in
    let k3 : FitsSigned w128 c.max-3.result = search rules in
    let m3 = simp to_z-of_z at c.min-3.ensures.value in
    let g3 = simp to_z-of_z at c.max-3.ensures.value in
    pair_same _ _ _ _ (to_z-of_z w128 _ n3 ∙ least_is r.a r.b r.c r.d c.min.result c.min-2.result c.min-3.result m1 m2 m3) (to_z-of_z w128 _ k3 ∙ greatest_is r.a r.b r.c r.d c.max.result c.max-2.result c.max-3.result g1 g2 g3)
