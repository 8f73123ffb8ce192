use Rattle.std.proofs.Common.{◌≡◌, take}
use Rattle.ep_bicells.specs.Steps.{after_step}
use Rattle.ep_bicells.proofs.changes.Step.front.Given as goal

abbrev pub invariant-loop-i : goal.invariant-loop-i
invariant-loop-i g l = after_step g.N.Num.ops l.model l.self (take l.i l.cells) ≡ take l.i l.cells
