use Rattle.std.proofs.Common.{◌≤◌}
use Rattle.state_costs.proofs.rounds.run.Given as goal

abbrev pub invariant-loop-i : goal.invariant-loop-i
invariant-loop-i l = l.done ≤ l.i
