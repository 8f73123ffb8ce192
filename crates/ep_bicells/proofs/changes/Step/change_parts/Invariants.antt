use Rattle.ep_bicells.specs.Steps.{after_step}
use Rattle.ep_bicells.specs.Standing.{AreSpanned}
use Rattle.ep_bicells.proofs.changes.Step.change_parts.Given as goal

abbrev pub invariant-loop-i : goal.invariant-loop-i
invariant-loop-i g l = record {
  spanned : AreSpanned (after_step g.N.Num.ops l.model l.self) l.first l.i l.edits l.fn.parts.items l.parts.items;
}
