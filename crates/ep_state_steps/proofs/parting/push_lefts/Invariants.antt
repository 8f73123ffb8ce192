use Rattle.std.proofs.Common.{◌≡◌, ◌++◌, map, drop}
use Rattle.ep_reads.specs.Single.{on_left_alone}
use Rattle.ep_state_steps.proofs.parting.push_lefts.Given as goal

abbrev pub invariant-loop-z : goal.invariant-loop-z
invariant-loop-z g l =
    l.out.items ++ map on_left_alone (drop l.z-index l.zs) ≡ l.fn.out.items ++ map on_left_alone l.zs
