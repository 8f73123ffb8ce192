use mir.Syntax.{w128}
use Rattle.std.proofs.lemmas.Int.{to_z-of_z}
use Rattle.ep_intervals.proofs.Machine.{some_interval}
use Rattle.ep_intervals.proofs.interval.Interval.between.Goals as goal

pub returns-then-hi-greatest : goal.returns-then-hi-greatest
returns-then-hi-greatest c = some_interval _ _ c.args.lo c.args.hi _ (to_z-of_z w128 c.args.lo c.ranges.lo) (to_z-of_z w128 c.args.hi c.ranges.hi)
