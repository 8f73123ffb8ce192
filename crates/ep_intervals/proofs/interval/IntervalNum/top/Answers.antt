use Rattle.std.proofs.Common.{rules, FitsSigned, ◌∙◌}
use mir.Syntax.{w128}
use Rattle.std.proofs.lemmas.Int.{to_z-of_z}
use Rattle.ep_interval_laws.proofs.Between.{same_ends}
use Rattle.ep_intervals.proofs.interval.IntervalNum.top.Goals as goal

pub returns : goal.returns
returns c =
    let f : FitsSigned w128 c.least.result = search rules in
    let g : FitsSigned w128 c.greatest.result = search rules in
    same_ends _ _ _ _ _ _ (to_z-of_z w128 c.least.result f ∙ c.least.ensures) (to_z-of_z w128 c.greatest.result g ∙ c.greatest.ensures)
