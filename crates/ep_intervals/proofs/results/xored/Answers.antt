use Rattle.std.proofs.Common.{rules, FitsSigned, ◌∙◌, sym, ap, pos}
use mir.Syntax.{w128}
use Rattle.std.proofs.lemmas.Int.{to_z-of_z}
use Rattle.ep_interval_laws.specs.Interval.{between}
use Rattle.ep_interval_laws.specs.Results.{ones_over}
use Rattle.ep_intervals.proofs.Machine.{xored_at}
use Rattle.ep_intervals.proofs.results.xored.Goals as goal

pub returns-then-y-ge0 : goal.returns-then-y-ge0
returns-then-y-ge0 c =
    let x = c.args.x in let y = c.args.y in
    let x0 : FitsSigned w128 x.0 = search rules in
    let x1 : FitsSigned w128 x.1 = search rules in
    let y0 : FitsSigned w128 y.0 = search rules in
    let y1 : FitsSigned w128 y.1 = search rules in
    let h : FitsSigned w128 c.max.result = search rules in
    let o : FitsSigned w128 c.ones_over.result = search rules in
    let n = simp to_z-of_z at c.max.ensures.value in
    let k = simp to_z-of_z at c.ones_over.ensures in
    let i = simp to_z-of_z at c.if-x-ge0.true in
    let j = simp to_z-of_z at c.if-y-ge0.true in
    let d = simp to_z-of_z at c.between.ensures in
    d ∙ ap (between (pos 0)) (k ∙ ap ones_over n) ∙ sym (xored_at c.args.t x y i j)
