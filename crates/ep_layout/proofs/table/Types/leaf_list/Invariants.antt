use Rattle.std.proofs.Common.{◌≡◌, ◌++◌}
use Rattle.std.specs.List.{All}
use Rattle.ep_layout.specs.Pending.{TaskFits, pending, pending_steps}
use Rattle.ep_layout.specs.Table as table
use Rattle.ep_layout.proofs.table.Types.leaf_list.Given as goal

abbrev pub invariant-tasks : goal.invariant-tasks
invariant-tasks l = (l.leaves.items ++ pending l.self l.tasks.items ≡ table.leaves l.self l.fn.ty) × All (TaskFits l.self) l.tasks.items

abbrev pub decreases-tasks : goal.decreases-tasks
decreases-tasks l = pending_steps l.self l.tasks.items
