use Rattle.std.proofs.Common.{◌≡◌, ◌++◌, drop}
use Rattle.ep_state_steps.proofs.turns.push_all.Given as goal

abbrev pub invariant-loop-c : goal.invariant-loop-c
invariant-loop-c g l = l.out.items ++ drop l.c-index l.more ≡ l.fn.out.items ++ l.more
