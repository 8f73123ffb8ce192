use Rattle.std.proofs.Common.{◌∙◌, sym}
use mir.Syntax.{w128}
use Rattle.std.proofs.lemmas.Int.{to_z-of_z}
use Rattle.ep_interval_laws.proofs.Between.{same_ends}
use Rattle.ep_interval_laws.proofs.Simple.{nearest_same}
use Rattle.ep_intervals.proofs.interval.IntervalNum.single.Goals as goal

pub returns : goal.returns
returns c =
    let e = to_z-of_z w128 c.args.v c.ranges.v ∙ sym (nearest_same c.args.v c.requires) in same_ends _ _ _ _ _ _ e e
