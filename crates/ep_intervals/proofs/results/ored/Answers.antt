use Rattle.std.proofs.Common.{rules, FitsSigned, ◌∙◌, sym, ap, subst}
use mir.Syntax.{w128}
use Rattle.std.proofs.lemmas.Int.{to_z-of_z}
use Rattle.std.specs.Int.{int_max}
use Rattle.ep_int.specs.Arith.{IsOfSomeType}
use Rattle.ep_interval_laws.specs.Interval.{between}
use Rattle.ep_interval_laws.specs.Results.{ones_over}
use Rattle.ep_intervals.proofs.Machine.{ored_at, greater_number}
use Rattle.ep_intervals.proofs.results.ored.Goals as goal

pub ones_over-requires-clause-high : goal.ones_over-requires-clause-high
ones_over-requires-clause-high c =
    let x = c.args.x in let y = c.args.y in
    let x0 : FitsSigned w128 x.0 = search rules in
    let x1 : FitsSigned w128 x.1 = search rules in
    let y0 : FitsSigned w128 y.0 = search rules in
    let y1 : FitsSigned w128 y.1 = search rules in
    let f : FitsSigned w128 c.max-then-y-ge0.result = search rules in
    let m = simp to_z-of_z at c.max-then-y-ge0.ensures.value in
    simp to_z-of_z (subst IsOfSomeType (sym m) (greater_number x y c.requires.left c.requires.right))

pub returns-then-y-ge0 : goal.returns-then-y-ge0
returns-then-y-ge0 c =
    let x = c.args.x in let y = c.args.y in
    let x0 : FitsSigned w128 x.0 = search rules in
    let x1 : FitsSigned w128 x.1 = search rules in
    let y0 : FitsSigned w128 y.0 = search rules in
    let y1 : FitsSigned w128 y.1 = search rules in
    let f : FitsSigned w128 c.max.result = search rules in
    let h : FitsSigned w128 c.max-then-y-ge0.result = search rules in
    let o : FitsSigned w128 c.ones_over.result = search rules in
    let m = simp to_z-of_z at c.max.ensures.value in
    let n = simp to_z-of_z at c.max-then-y-ge0.ensures.value in
    let k = simp to_z-of_z at c.ones_over.ensures in
    let i = simp to_z-of_z at c.if-x-ge0.true in
    let j = simp to_z-of_z at c.if-y-ge0.true in
    let d = simp to_z-of_z at c.between.ensures in
    d ∙ ap (λ z. between z c.ones_over.result) m ∙ ap (between (int_max x.0 y.0)) (k ∙ ap ones_over n) ∙ sym (ored_at c.args.t x y i j)
