use Rattle.std.proofs.Common.{rules, FitsSigned, ◌∙◌, sym, ap, true, false}
use mir.Syntax.{w128}
use Rattle.std.proofs.lemmas.Int.{to_z-of_z}
use Rattle.std.specs.Prelude.{int_le}
use Rattle.ep_interval_laws.specs.Results.{clipped, quotients, hull, negative_part}
use Rattle.ep_intervals.proofs.Machine.{divided_at}
use Rattle.ep_intervals.proofs.results.divided.Goals as goal

pub returns-in-true-true : goal.returns-in-true-true
returns-in-true-true c =
    let x = c.args.x in let y = c.args.y in
    let x0 : FitsSigned w128 x.0 = search rules in
    let x1 : FitsSigned w128 x.1 = search rules in
    let y0 : FitsSigned w128 y.0 = search rules in
    let y1 : FitsSigned w128 y.1 = search rules in
    let f : FitsSigned w128 c.min.result = search rules in
    let k : FitsSigned w128 c.max.result = search rules in
    let m = simp to_z-of_z at c.min.ensures.value in
    let n = simp to_z-of_z at c.max.ensures.value in
    let i = simp to_z-of_z at c.in-true-true.is-0 in
    let j = simp to_z-of_z at c.in-true-true.is-1 in
    let s = simp to_z-of_z at c.quotients.ensures in
    let u = simp to_z-of_z at c.quotients-in-true-true.ensures in
    let a = ap (int_le y.0) (sym m) ∙ i in
    let b = ap (λ z. int_le z y.1) (sym n) ∙ j in
    c.clipped.ensures ∙ ap (clipped c.args.t) (c.hull.ensures ∙ ap (λ z. hull z c.quotients-in-true-true.result) (s ∙ ap (λ z. quotients x (y.0, z)) m) ∙ ap (hull (quotients x (negative_part y))) (u ∙ ap (λ z. quotients x (z, y.1)) n)) ∙ sym (divided_at c.args.t x y true true a b)

pub returns-in-true-false : goal.returns-in-true-false
returns-in-true-false c =
    let x = c.args.x in let y = c.args.y in
    let x0 : FitsSigned w128 x.0 = search rules in
    let x1 : FitsSigned w128 x.1 = search rules in
    let y0 : FitsSigned w128 y.0 = search rules in
    let y1 : FitsSigned w128 y.1 = search rules in
    let f : FitsSigned w128 c.min.result = search rules in
    let k : FitsSigned w128 c.max.result = search rules in
    let m = simp to_z-of_z at c.min.ensures.value in
    let n = simp to_z-of_z at c.max.ensures.value in
    let i = simp to_z-of_z at c.in-true-false.is-0 in
    let j = simp to_z-of_z at c.in-true-false.is-1 in
    let s = simp to_z-of_z at c.quotients-in-true-false.ensures in
    let a = ap (int_le y.0) (sym m) ∙ i in
    let b = ap (λ z. int_le z y.1) (sym n) ∙ j in
    c.clipped-in-true-false.ensures ∙ ap (clipped c.args.t) (s ∙ ap (λ z. quotients x (y.0, z)) m) ∙ sym (divided_at c.args.t x y true false a b)

pub returns-in-false-true : goal.returns-in-false-true
returns-in-false-true c =
    let x = c.args.x in let y = c.args.y in
    let x0 : FitsSigned w128 x.0 = search rules in
    let x1 : FitsSigned w128 x.1 = search rules in
    let y0 : FitsSigned w128 y.0 = search rules in
    let y1 : FitsSigned w128 y.1 = search rules in
    let f : FitsSigned w128 c.min.result = search rules in
    let k : FitsSigned w128 c.max.result = search rules in
    let m = simp to_z-of_z at c.min.ensures.value in
    let n = simp to_z-of_z at c.max.ensures.value in
    let i = simp to_z-of_z at c.in-false-true.is-0 in
    let j = simp to_z-of_z at c.in-false-true.is-1 in
    let u = simp to_z-of_z at c.quotients-in-false-true.ensures in
    let a = ap (int_le y.0) (sym m) ∙ i in
    let b = ap (λ z. int_le z y.1) (sym n) ∙ j in
    c.clipped-in-false-true.ensures ∙ ap (clipped c.args.t) (u ∙ ap (λ z. quotients x (z, y.1)) n) ∙ sym (divided_at c.args.t x y false true a b)
