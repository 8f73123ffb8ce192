use Rattle.std.proofs.Common.{rules, FitsSigned, ◌∙◌, ap}
use mir.Syntax.{w128}
use Rattle.std.proofs.lemmas.Int.{to_z-of_z}
use Rattle.ep_int.specs.Types.{least_of}
use Rattle.ep_interval_laws.specs.Interval.{between}
use Rattle.ep_intervals.proofs.results.whole.Goals as goal

pub returns : goal.returns
returns c =
    let p : FitsSigned w128 c.least.result = search rules in
    let q : FitsSigned w128 c.greatest.result = search rules in
    let d = simp to_z-of_z at c.between.ensures in
    d ∙ ap (λ z. between z c.greatest.result) c.least.ensures ∙ ap (between (least_of c.args.t)) c.greatest.ensures
