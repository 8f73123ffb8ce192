use Rattle.std.proofs.Common.{◌≡◌, true, nat_eq, subst, sym}
use Rattle.std.specs.List.{list_any}
use Rattle.ep_shared_parts.specs.Spread.{all_items}
use Rattle.ep_shared_parts.proofs.Mentioning.{found_user}
use Rattle.ep_bicells.proofs.changes.edits_of_users.Goals as goal

pub returns-clause-users : goal.returns-clause-users
returns-clause-users g c = λ u n a b.
    c.in_ok-push_users.ensures.covers u.by (subst (λ v. list_any (nat_eq u.by) v ≡ true) (sym c.deref.ensures.value) (c.in_ok-users-2.ensures u.by (subst (λ v. list_any (nat_eq u.by) v ≡ true) (sym c.in_ok-users.ensures) (found_user c.args.range.0 c.args.range.1 u (all_items c.args.uses.now) n a b))))
