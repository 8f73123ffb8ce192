use Rattle.std.proofs.Common.{rules, FitsSigned, to_z-of_z}
use Rattle.std.specs.Int.{w128}
use Rattle.ep_transfer_overlaps.proofs.Differences.{overlap_is}
use Rattle.ep_transfer_overlaps.proofs.overlaps.offsets_overlap.Goals as goal

pub returns : goal.returns
returns g c =
    let a : FitsSigned w128 c.least_difference.result = search rules in
    let b : FitsSigned w128 c.greatest_difference.result = search rules in
    let f : FitsSigned w128 c.first_overlap.result = search rules in
    let h : FitsSigned w128 c.last_overlap.result = search rules in
    let l : FitsSigned w128 c.larger-low.result = search rules in
    let s : FitsSigned w128 c.smaller-high.result = search rules in
    let p = simp to_z-of_z at c.larger-low.ensures in
    let q = simp to_z-of_z at c.smaller-high.ensures in
    let e = simp to_z-of_z at c.may_be_between.ensures in
    overlap_is g.N.Num.ops c.args.aggregate c.args.bytes (g.N.Num.ops.range c.args.a.now)
    (g.N.Num.ops.range c.args.b.now) c.least_difference.result c.greatest_difference.result c.first_overlap.result
    c.last_overlap.result c.larger-low.result c.smaller-high.result c.may_be_between.result
    c.least_difference.ensures c.greatest_difference.ensures c.first_overlap.ensures c.last_overlap.ensures p q e
