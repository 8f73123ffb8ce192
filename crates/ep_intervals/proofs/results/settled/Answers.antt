use Rattle.std.proofs.Common.{rules, FitsSigned, ◌∙◌, sym, ap, ℤ}
use mir.Syntax.{w128}
use Rattle.std.proofs.lemmas.Int.{to_z-of_z}
use Rattle.ep_interval_laws.specs.Interval.{between}
use Rattle.ep_intervals.proofs.Machine.{reduced_is}
use Rattle.ep_intervals.proofs.results.settled.Goals as goal

pub returns-else-is_signed : goal.returns-else-is_signed
returns-else-is_signed c =
    let e = c.args.exact in
    let e0 : FitsSigned w128 e.0 = search rules in
    let e1 : FitsSigned w128 e.1 = search rules in
    let p : FitsSigned w128 c.wrapped-lo.result.0 = search rules in
    let q : FitsSigned w128 c.wrapped-lo.result.1 = search rules in
    let m = simp to_z-of_z at c.wrapped-lo.ensures in
    let d = simp to_z-of_z at c.between.ensures in
    reduced_is c.args.t e c.between.result (sym c.is_signed.ensures ∙ c.if-is_signed.false) (d ∙ ap (λ (r : ℤ × ℤ). between r.0 r.1) m)
