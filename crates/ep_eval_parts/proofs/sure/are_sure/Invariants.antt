use Rattle.std.proofs.Common.{◌≡◌, drop}
use Rattle.ep_evaluation.specs.Given.{are_sure}
use Rattle.ep_eval_parts.proofs.sure.are_sure.Given as goal

abbrev pub invariant-loop-i : goal.invariant-loop-i
invariant-loop-i l = are_sure (drop l.i l.faults) ≡ are_sure (drop l.from l.faults)
