use Rattle.std.proofs.Common.{rules, FitsSigned}
use Rattle.ep_int.proofs.Basics.{of_z-injective}
use mir.Syntax.{w128}
use Rattle.std.proofs.lemmas.Int.{to_z-of_z}
use Rattle.ep_intervals.proofs.Machine.{seen, low_fits, high_fits, apart_is}
use Rattle.ep_intervals.proofs.interval.Interval.apart_from.Goals as goal

pub returns-then-o : goal.returns-then-o
returns-then-o c =
    let a = seen c.self.inside in let b = seen c.o.inside in
    let p = low_fits a in let q = high_fits a in let r = low_fits b in let s = high_fits b in
    let f : FitsSigned w128 c.low_apart.result = search rules in
    let g : FitsSigned w128 c.high_apart.result = search rules in
    let m = simp to_z-of_z at c.low_apart.ensures in
    let n = simp to_z-of_z at c.high_apart.ensures in
    let d = simp to_z-of_z at c.between.ensures in
    rw (← c.self.view_is, ← c.o.view_is) (apart_is a b c.low_apart.result c.high_apart.result c.between.result (of_z-injective b.lo b.hi r s c.if-o.true) m n d)
