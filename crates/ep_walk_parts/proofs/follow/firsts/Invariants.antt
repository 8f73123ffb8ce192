use Rattle.std.proofs.Common.{◌≡◌, ◌++◌, drop}
use Rattle.ep_core.specs.Exec.{first_of}
use Rattle.ep_walk_parts.proofs.follow.firsts.Given as goal

abbrev pub invariant-loop-p : goal.invariant-loop-p
invariant-loop-p l = l.blocks.items ++ first_of (drop l.p-index l.params) ≡ first_of l.fn.params
