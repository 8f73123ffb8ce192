use Rattle.std.proofs.Common.{rules, FitsSigned}
use mir.Syntax.{w128}
use Rattle.std.proofs.lemmas.Int.{to_z-of_z}
use Rattle.ep_int.proofs.Arithmetic.{quotient_fits}
use Rattle.ep_intervals.proofs.results.quotients.Goals as goal

pub returns : goal.returns
returns c =
    let x = c.args.x in let y = c.args.y in
    let x0 : FitsSigned w128 x.0 = search rules in
    let x1 : FitsSigned w128 x.1 = search rules in
    let y0 : FitsSigned w128 y.0 = search rules in
    let y1 : FitsSigned w128 y.1 = search rules in
    let p = quotient_fits x.0 y.0 c.requires.low in
    let q = quotient_fits x.0 y.1 c.requires.low in
    let r = quotient_fits x.1 y.0 c.requires.high in
    let s = quotient_fits x.1 y.1 c.requires.high in
    simp to_z-of_z at c.corners.ensures
