use Rattle.std.proofs.Common.{◌≡◌, ◌++◌, drop}
use Rattle.ep_certcheck.proofs.verdict.known.Given as goal

abbrev pub invariant-loop-head : goal.invariant-loop-head
invariant-loop-head g l = l.out.items ++ drop l.head-index l.heads ≡ l.fn.heads
