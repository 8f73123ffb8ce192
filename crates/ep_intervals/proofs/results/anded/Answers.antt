use Rattle.std.proofs.Common.{rules, FitsSigned, ◌∙◌, sym, ap, true, false, pos}
use mir.Syntax.{w128}
use Rattle.std.proofs.lemmas.Int.{to_z-of_z}
use Rattle.ep_interval_laws.specs.Interval.{between}
use Rattle.ep_intervals.proofs.Machine.{anded_at}
use Rattle.ep_intervals.proofs.results.anded.Goals as goal

pub returns-in-true-true : goal.returns-in-true-true
returns-in-true-true c =
    let x = c.args.x in let y = c.args.y in
    let x0 : FitsSigned w128 x.0 = search rules in
    let x1 : FitsSigned w128 x.1 = search rules in
    let y0 : FitsSigned w128 y.0 = search rules in
    let y1 : FitsSigned w128 y.1 = search rules in
    let f : FitsSigned w128 c.min.result = search rules in
    let m = simp to_z-of_z at c.min.ensures.value in
    let i = simp to_z-of_z at c.in-true-true.is-0 in
    let j = simp to_z-of_z at c.in-true-true.is-1 in
    let d = simp to_z-of_z at c.between.ensures in
    d ∙ ap (between (pos 0)) m ∙ sym (anded_at c.args.t x y true true i j)

pub returns-in-true-false : goal.returns-in-true-false
returns-in-true-false c =
    let x = c.args.x in let y = c.args.y in
    let x0 : FitsSigned w128 x.0 = search rules in
    let x1 : FitsSigned w128 x.1 = search rules in
    let y0 : FitsSigned w128 y.0 = search rules in
    let y1 : FitsSigned w128 y.1 = search rules in
    let i = simp to_z-of_z at c.in-true-false.is-0 in
    let j = simp to_z-of_z at c.in-true-false.is-1 in
    let d = simp to_z-of_z at c.between-in-true-false.ensures in
    d ∙ sym (anded_at c.args.t x y true false i j)

pub returns-in-false-true : goal.returns-in-false-true
returns-in-false-true c =
    let x = c.args.x in let y = c.args.y in
    let x0 : FitsSigned w128 x.0 = search rules in
    let x1 : FitsSigned w128 x.1 = search rules in
    let y0 : FitsSigned w128 y.0 = search rules in
    let y1 : FitsSigned w128 y.1 = search rules in
    let i = simp to_z-of_z at c.in-false-true.is-0 in
    let j = simp to_z-of_z at c.in-false-true.is-1 in
    let d = simp to_z-of_z at c.between-in-false-true.ensures in
    d ∙ sym (anded_at c.args.t x y false true i j)
