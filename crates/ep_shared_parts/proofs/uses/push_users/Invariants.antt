use Rattle.std.proofs.Common.{◌≡◌, ◌++◌, drop}
use Rattle.ep_shared_parts.specs.Mentions.{users_in}
use Rattle.ep_shared_parts.proofs.uses.push_users.Given as goal

abbrev pub invariant-loop-u : goal.invariant-loop-u
invariant-loop-u l = l.out.items ++ users_in l.from l.last (drop l.u-index l.uses) ≡ l.fn.out.items ++ users_in
    l.from l.last l.uses
