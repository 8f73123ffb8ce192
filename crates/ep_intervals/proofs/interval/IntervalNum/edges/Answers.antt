use Rattle.std.proofs.Common.{Some, ap, sym, ◌∙◌}
use Rattle.std.specs.Option.{option_map}
use Rattle.std.proofs.lemmas.Int.{to_z-of_z}
use Rattle.ep_interval_laws.specs.Interval.{ends_of}
use Rattle.ep_intervals.proofs.interval.IntervalNum.edges.Goals as goal

pub returns : goal.returns
returns c =
    let d = c.ranges.lo in let e = c.ranges.hi in
    let m = simp to_z-of_z at c.overlap.ensures in
    ap Some c.range.ensures ∙ ap (option_map ends_of) (sym c.in_ok-overlap.was ∙ m)
