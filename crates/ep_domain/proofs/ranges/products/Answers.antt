use Rattle.std.proofs.Common.{rules, FitsSigned}
use mir.Syntax.{w128}
use Rattle.std.proofs.lemmas.Int.{to_z-of_z}
use Rattle.ep_domain.proofs.ranges.products.Goals as goal

pub returns : goal.returns
returns c =
    let x = c.args.x in let y = c.args.y in
    let x0 : FitsSigned w128 x.0 = search rules in
    let x1 : FitsSigned w128 x.1 = search rules in
    let y0 : FitsSigned w128 y.0 = search rules in
    let y1 : FitsSigned w128 y.1 = search rules in
    let p = c.requires.low.0 in let q = c.requires.low.1 in let r = c.requires.high.0 in let s = c.requires.high.1 in
    simp to_z-of_z at c.corners.ensures
