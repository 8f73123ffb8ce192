use Rattle.std.proofs.Common.{◌≡◌, ℕ, ◌≤◌, ◌<◌, true}
use Rattle.ep_shared_parts.specs.Plans.{is_edited, AreEdits, KeepsEdits}
use Rattle.ep_bicells.specs.Steps.{after_step}
use Rattle.ep_bicells.proofs.changes.push_edits.Given as goal

abbrev pub invariant-loop-i : goal.invariant-loop-i
invariant-loop-i g l = record {
  edits : AreEdits (after_step g.N.Num.ops l.model l.step) l.parts l.out.items;
  keeps : KeepsEdits l.fn.out.items l.out.items;
  done : (k : ℕ) → l.first ≤ k → k < l.i → is_edited k l.out.items ≡ true;
}
