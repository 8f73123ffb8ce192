use Rattle.std.proofs.Common.{◌≡◌, drop, take, ◌+◌, length}
use Rattle.ep_layout.specs.Grown.{changed_at_each, reopened}
use Rattle.ep_layout.proofs.table.marks.reopen_behind.Given as goal

-- what is left to undo comes to the same
abbrev pub invariant-loop : goal.invariant-loop
invariant-loop l =
    (changed_at_each reopened l.aggregates.items (drop l.fn.count l.completed.items)
    ≡ changed_at_each reopened l.fn.aggregates.items (drop l.fn.count l.fn.completed.items))
    × (take l.fn.count l.completed.items ≡ take l.fn.count l.fn.completed.items)
    × (l.counter + length l.completed.items ≡ l.fn.count + length l.fn.completed.items)
