use Rattle.std.proofs.Common.{rules, FitsSigned, ◌∙◌, ap}
use mir.Syntax.{w128}
use Rattle.std.proofs.lemmas.Int.{to_z-of_z}
use Rattle.std.specs.Int.{int_min, int_max}
use Rattle.ep_int.specs.Types.{least_of}
use Rattle.ep_interval_laws.specs.Interval.{between}
use Rattle.ep_intervals.proofs.results.clipped.Goals as goal

pub returns : goal.returns
returns c =
    let e = c.args.exact in
    let e0 : FitsSigned w128 e.0 = search rules in
    let e1 : FitsSigned w128 e.1 = search rules in
    let p : FitsSigned w128 c.least.result = search rules in
    let q : FitsSigned w128 c.greatest.result = search rules in
    let f : FitsSigned w128 c.max.result = search rules in
    let g : FitsSigned w128 c.min.result = search rules in
    let m = simp to_z-of_z at c.max.ensures.value in
    let n = simp to_z-of_z at c.min.ensures.value in
    let d = simp to_z-of_z at c.between.ensures in
    d ∙ ap (λ z. between z c.min.result) (m ∙ ap (int_max e.0) c.least.ensures) ∙ ap (between (int_max e.0 (least_of c.args.t))) (n ∙ ap (int_min e.1) c.greatest.ensures)
