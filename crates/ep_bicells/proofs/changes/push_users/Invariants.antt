use Rattle.std.proofs.Common.{◌≡◌, ℕ, true, nat_eq, take}
use Rattle.std.specs.List.{list_any}
use Rattle.ep_shared_parts.specs.Mentions.{number_of}
use Rattle.ep_shared_parts.specs.Plans.{AreEdits, KeepsEdits, Covers}
use Rattle.ep_bicells.specs.Steps.{after_step}
use Rattle.ep_bicells.proofs.changes.push_users.Given as goal

abbrev pub invariant-loop-k : goal.invariant-loop-k
invariant-loop-k g l = record {
  edits : AreEdits (after_step g.N.Num.ops l.model l.step) l.parts l.out.items;
  keeps : KeepsEdits l.fn.out.items l.out.items;
  done : (k : ℕ) → list_any (nat_eq k) (take l.k-index l.users) ≡ true → Covers number_of k k l.parts l.out.items;
}
