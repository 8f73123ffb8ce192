use Rattle.std.proofs.Common.{rules, FitsSigned, ◌∙◌, sym}
use mir.Syntax.{w128}
use Rattle.std.proofs.lemmas.Int.{to_z-of_z}
use Rattle.ep_intervals.proofs.Machine.{shr_fits, shifted_right_is}
use Rattle.ep_intervals.proofs.results.shifted_right.Goals as goal

pub returns-then-has_amount : goal.returns-then-has_amount
returns-then-has_amount c =
    let x = c.args.x in let y = c.args.y in
    let x0 : FitsSigned w128 x.0 = search rules in
    let x1 : FitsSigned w128 x.1 = search rules in
    let y0 : FitsSigned w128 y.0 = search rules in
    let y1 : FitsSigned w128 y.1 = search rules in
    let f : FitsSigned w128 c.corners-lo.result.0 = search rules in
    let h : FitsSigned w128 c.corners-lo.result.1 = search rules in
    let j = simp to_z-of_z at c.nearest_amount-j.ensures.value in
    let k = simp to_z-of_z at c.nearest_amount-k.ensures.value in
    let a = shr_fits x.0 c.nearest_amount-j.result x0 in
    let b = shr_fits x.0 c.nearest_amount-k.result x0 in
    let d = shr_fits x.1 c.nearest_amount-j.result x1 in
    let e = shr_fits x.1 c.nearest_amount-k.result x1 in
    let m = simp to_z-of_z at c.corners-lo.ensures in
    let n = simp to_z-of_z at c.between.ensures in
    shifted_right_is c.args.t x y c.nearest_amount-j.result c.nearest_amount-k.result c.corners-lo.result c.between.result (sym c.has_amount.ensures ∙ c.if-has_amount.true) j k m n
