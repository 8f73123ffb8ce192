use Rattle.std.proofs.Common.{◌≡◌, ◌++◌, drop}
use Rattle.ep_shared_parts.specs.Spread.{all_items}
use Rattle.ep_shared_parts.specs.Mentions.{users_in}
use Rattle.ep_shared_parts.proofs.uses.users.Given as goal

abbrev pub invariant-loop-part : goal.invariant-loop-part
invariant-loop-part l = l.out.items ++ users_in l.from l.last (all_items (drop l.part-index l.part-items)) ≡ users_in
    l.from l.last (all_items l.part-items)
