use Rattle.std.proofs.Common.{rules, FitsSigned}
use mir.Syntax.{w128}
use Rattle.std.proofs.lemmas.Int.{to_z-of_z}
use Rattle.ep_intervals.proofs.Machine.{seen, low_fits, high_fits}
use Rattle.ep_intervals.proofs.interval.Interval.overlap.Goals as goal

pub returns : goal.returns
returns c =
    let i = seen c.self.inside in let a = low_fits i in let b = high_fits i in let d = c.ranges.lo in let e = c.ranges.hi in
    let f : FitsSigned w128 c.max.result = search rules in
    let g : FitsSigned w128 c.min.result = search rules in
    let m = simp to_z-of_z at c.max.ensures.value in
    let n = simp to_z-of_z at c.min.ensures.value in
    let h = simp to_z-of_z at c.between.ensures in
    rw (← c.self.view_is, ← m, ← n) h
