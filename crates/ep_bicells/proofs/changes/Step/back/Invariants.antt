use Rattle.std.proofs.Common.{◌≡◌, drop}
use Rattle.ep_bicells.specs.Steps.{after_step}
use Rattle.ep_bicells.proofs.changes.Step.back.Given as goal

abbrev pub invariant-loop-i : goal.invariant-loop-i
invariant-loop-i g l = after_step g.N.Num.ops l.model l.self (drop l.i l.cells) ≡ drop l.i l.cells
