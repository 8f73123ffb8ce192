use Rattle.std.proofs.Common.{rules, FitsSigned, ◌∙◌}
use mir.Syntax.{w128}
use Rattle.std.proofs.lemmas.Int.{to_z-of_z}
use Rattle.ep_interval_laws.specs.Ranges.{range_of_join}
use Rattle.ep_interval_laws.proofs.Between.{same_ends}
use Rattle.ep_intervals.proofs.Machine.{seen, low_fits, high_fits}
use Rattle.std.proofs.Common.{subst, sym, ◌⊎◌}
use Rattle.ep_interval_laws.specs.Interval.{HasNumber}
use Rattle.ep_interval_laws.specs.Least.{IsLeast}
use Rattle.ep_interval_laws.proofs.Least.{join_least}
use Rattle.ep_intervals.proofs.interval.IntervalNum.join.Goals as goal

pub invariant_of-result : goal.invariant_of-result
invariant_of-result c =
    let a = seen c.self.inside in let b = seen c.o.inside in
    let p = low_fits a in let q = high_fits a in let r = low_fits b in let s = high_fits b in
    let f : FitsSigned w128 c.min.result = search rules in
    let g : FitsSigned w128 c.max.result = search rules in
    let m = simp to_z-of_z at c.min.ensures.value in
    let n = simp to_z-of_z at c.max.ensures.value in
    (simp to_z-of_z (rw (m, n) (range_of_join a.lo a.hi b.lo b.hi a.ends b.ends)), tt)

pub returns-clause-value : goal.returns-clause-value
returns-clause-value c =
    let a = seen c.self.inside in let b = seen c.o.inside in
    let p = low_fits a in let q = high_fits a in let r = low_fits b in let s = high_fits b in
    let f : FitsSigned w128 c.min.result = search rules in
    let g : FitsSigned w128 c.max.result = search rules in
    let m = simp to_z-of_z at c.min.ensures.value in
    let n = simp to_z-of_z at c.max.ensures.value in
    rw (← c.self.view_is, ← c.o.view_is) (same_ends _ _ _ _ _ _ (to_z-of_z w128 c.min.result f ∙ m) (to_z-of_z w128 c.max.result g ∙ n))

pub returns-clause-least : goal.returns-clause-least
returns-clause-least c = let a = c.args.self.now in let b = c.args.o.now in subst (IsLeast (λ v. HasNumber a v ⊎ HasNumber b v)) (sym (returns-clause-value c)) (join_least a b)
