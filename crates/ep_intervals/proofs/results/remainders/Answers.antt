use Rattle.std.proofs.Common.{rules, FitsSigned, ◌∙◌, ap}
use mir.Syntax.{w128}
use Rattle.std.specs.Int.{int_max}
use Rattle.std.proofs.lemmas.Int.{to_z-of_z}
use Rattle.ep_intervals.proofs.Machine.{negation_fits, size_fits, remainders_is, zero_less}
use Rattle.ep_intervals.proofs.results.remainders.Goals as goal

pub returns : goal.returns
returns c =
    let x = c.args.x in let y = c.args.y in
    let x0 : FitsSigned w128 x.0 = search rules in
    let x1 : FitsSigned w128 x.1 = search rules in
    let y0 : FitsSigned w128 y.0 = search rules in
    let y1 : FitsSigned w128 y.1 = search rules in
    let n = negation_fits y.0 y.1 c.requires in
    let s : FitsSigned w128 c.max-size.result = search rules in
    let e0 = simp to_z-of_z at c.max-size.ensures.value in
    let e = e0 ∙ ap (λ z. int_max z y.1) (zero_less y.0) in
    let z = size_fits y.0 y.1 c.max-size.result c.requires e in
    let a = z.0 in let b = z.1 in
    let f : FitsSigned w128 c.min.result = search rules in
    let g : FitsSigned w128 c.max.result = search rules in
    let h : FitsSigned w128 c.max-2.result = search rules in
    let k : FitsSigned w128 c.min-2.result = search rules in
    let p = simp to_z-of_z at c.min.ensures.value in
    let q = simp to_z-of_z at c.max.ensures.value in
    let r = simp to_z-of_z at c.max-2.ensures.value in
    let t = simp to_z-of_z at c.min-2.ensures.value in
    let d = simp to_z-of_z at c.between.ensures in
    remainders_is x y c.max-size.result c.min.result c.max.result c.max-2.result c.min-2.result c.between.result e p q r t d
