use Rattle.std.proofs.Common.{rules, FitsSigned, ◌∙◌, sym, ap}
use mir.Syntax.{w128}
use Rattle.std.proofs.lemmas.Int.{to_z-of_z}
use Rattle.ep_interval_laws.specs.Results.{single_result}
use Rattle.ep_intervals.proofs.results.single_result.Goals as goal

pub returns-in-Ok : goal.returns-in-Ok
returns-in-Ok c =
    let p = c.ranges.x in let q = c.ranges.y in
    let v : FitsSigned w128 c.in-Ok.v = search rules in
    let m = simp to_z-of_z at c.arith.ensures in
    let d = simp to_z-of_z at c.between.ensures in
    d ∙ ap single_result (sym c.in-Ok.is ∙ m)
