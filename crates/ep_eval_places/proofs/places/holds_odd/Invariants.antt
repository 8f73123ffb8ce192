use Rattle.std.proofs.Common.{pos, ◌+ℤ◌, ◌-ℤ◌}
use Rattle.std.specs.Prelude.{unsigned_abs}
use Rattle.ep_eval_places.proofs.Odd.{Searched}
use Rattle.ep_eval_places.proofs.places.holds_odd.Given as goal

abbrev pub invariant-loop-z : goal.invariant-loop-z
invariant-loop-z g l = Searched g.N.Num.ops g.met.N.Num.laws l.n l.offsets l.z l.high

abbrev pub decreases-loop-z : goal.decreases-loop-z
decreases-loop-z g l = unsigned_abs ((l.high +ℤ pos 1) -ℤ l.z)
