use Rattle.std.proofs.Common.{rules, FitsSigned, ◌∙◌}
use mir.Syntax.{w128}
use Rattle.std.proofs.lemmas.Int.{to_z-of_z}
use Rattle.ep_intervals.proofs.Machine.{apart_stretches, whole_ends}
use Rattle.ep_intervals.proofs.ends.wrapped.Goals as goal

pub returns-else-lo-low : goal.returns-else-lo-low
returns-else-lo-low c =
    let a = c.args in
    let lo = c.ranges.lo in let hi = c.ranges.hi in
    let f : FitsSigned w128 c.wrap-low.result = search rules in
    let g : FitsSigned w128 c.wrap-high.result = search rules in
    let p : FitsSigned w128 c.least.result = search rules in
    let q : FitsSigned w128 c.greatest.result = search rules in
    let m = simp to_z-of_z at c.wrap-low.ensures.value in
    let n = simp to_z-of_z at c.wrap-high.ensures.value in
    let d = simp to_z-of_z at c.if-lo-low.false in
    whole_ends a.t a.lo a.hi _ _ (apart_stretches a.t a.lo a.hi c.wrap-low.result c.wrap-high.result m n d) (to_z-of_z w128 _ p ∙ c.least.ensures) (to_z-of_z w128 _ q ∙ c.greatest.ensures)
