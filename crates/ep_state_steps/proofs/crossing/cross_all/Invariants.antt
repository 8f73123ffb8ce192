use Rattle.std.proofs.Common.{◌≡◌, drop}
use Rattle.ep_state_steps.specs.Ones.{crossed_at}
use Rattle.ep_state_steps.proofs.crossing.cross_all.Given as goal

abbrev pub invariant-loop-x : goal.invariant-loop-x
invariant-loop-x g l = crossed_at g.N.Num.ops (drop l.x-index l.xs) l.sofar ≡ crossed_at g.N.Num.ops l.xs l.fn.state
