use Rattle.std.proofs.Common.{◌≡◌, ◌++◌, drop}
use Rattle.ep_shared_parts.proofs.parts.copied.Given as goal

abbrev pub invariant-loop-x : goal.invariant-loop-x
invariant-loop-x g l = l.out.items ++ drop l.x-index l.items ≡ l.items
