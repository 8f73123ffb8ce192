use Rattle.std.proofs.Common.{rules, FitsSigned, ap, ◌∙◌, ℤ}
use mir.Syntax.{w128}
use Rattle.std.proofs.lemmas.Int.{to_z-of_z}
use Rattle.ep_interval_laws.specs.Ranges.{range_of_conversion}
use Rattle.ep_interval_laws.proofs.Between.{same_ends}
use Rattle.ep_intervals.proofs.Machine.{seen, low_fits, high_fits}
use Rattle.std.proofs.Common.{subst, sym}
use Rattle.ep_interval_laws.specs.Least.{IsLeast, IsConverted}
use Rattle.ep_interval_laws.proofs.Least.{conversion_least}
use Rattle.ep_intervals.proofs.interval.IntervalNum.convert.Goals as goal

pub invariant_of-result : goal.invariant_of-result
invariant_of-result c =
    let a = seen c.self.inside in
    let p = low_fits a in let q = high_fits a in
    let f : FitsSigned w128 c.wrapped-lo.result.0 = search rules in
    let g : FitsSigned w128 c.wrapped-lo.result.1 = search rules in
    let m = simp to_z-of_z at c.wrapped-lo.ensures in
    (simp to_z-of_z (rw m (range_of_conversion c.args.t a.lo a.hi a.ends)), tt)

pub returns-clause-value : goal.returns-clause-value
returns-clause-value c =
    let a = seen c.self.inside in
    let p = low_fits a in let q = high_fits a in
    let f : FitsSigned w128 c.wrapped-lo.result.0 = search rules in
    let g : FitsSigned w128 c.wrapped-lo.result.1 = search rules in
    let m = simp to_z-of_z at c.wrapped-lo.ensures in
    rw (← c.self.view_is) (same_ends _ _ _ _ _ _ (to_z-of_z w128 c.wrapped-lo.result.0 f ∙ ap (λ (p : ℤ × ℤ). p.0) m) (to_z-of_z w128 c.wrapped-lo.result.1 g ∙ ap (λ (p : ℤ × ℤ). p.1) m))

pub returns-clause-least : goal.returns-clause-least
returns-clause-least c = subst (IsLeast (IsConverted c.args.t c.args.self.now)) (sym (returns-clause-value c)) (conversion_least c.args.self.now c.args.t)
