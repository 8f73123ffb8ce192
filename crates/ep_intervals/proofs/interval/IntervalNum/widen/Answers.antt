use Rattle.std.proofs.Common.{rules, FitsSigned, ◌∙◌}
use mir.Syntax.{w128}
use Rattle.std.proofs.lemmas.Int.{to_z-of_z}
use Rattle.ep_interval_laws.specs.Ranges.{range_of_widening}
use Rattle.ep_interval_laws.proofs.Between.{same_ends}
use Rattle.ep_intervals.proofs.Machine.{seen, low_fits, high_fits}
use Rattle.ep_intervals.proofs.interval.IntervalNum.widen.Goals as goal

pub invariant_of-result : goal.invariant_of-result
invariant_of-result c =
    let a = seen c.self.inside in let b = seen c.o.inside in
    let p = low_fits a in let q = high_fits a in let r = low_fits b in let s = high_fits b in
    let f : FitsSigned w128 c.lowered.result = search rules in
    let g : FitsSigned w128 c.raised.result = search rules in
    let m = simp to_z-of_z at c.lowered.ensures in
    let n = simp to_z-of_z at c.raised.ensures in
    (simp to_z-of_z (rw (m, n) (range_of_widening a.lo a.hi b.lo b.hi a.ends b.ends)), tt)

pub returns : goal.returns
returns c =
    let a = seen c.self.inside in let b = seen c.o.inside in
    let p = low_fits a in let q = high_fits a in let r = low_fits b in let s = high_fits b in
    let f : FitsSigned w128 c.lowered.result = search rules in
    let g : FitsSigned w128 c.raised.result = search rules in
    let m = simp to_z-of_z at c.lowered.ensures in
    let n = simp to_z-of_z at c.raised.ensures in
    rw (← c.self.view_is, ← c.o.view_is) (same_ends _ _ _ _ _ _ (to_z-of_z w128 c.lowered.result f ∙ m) (to_z-of_z w128 c.raised.result g ∙ n))
