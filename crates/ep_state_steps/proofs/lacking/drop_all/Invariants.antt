use Rattle.std.proofs.Common.{◌≡◌, drop}
use Rattle.ep_state_steps.proofs.Loops.{drop_of}
use Rattle.ep_state_steps.proofs.lacking.drop_all.Given as goal

abbrev pub invariant-loop-z : goal.invariant-loop-z
invariant-loop-z g l = drop_of (drop l.z-index l.zs) l.sofar ≡ drop_of l.zs l.fn.state
