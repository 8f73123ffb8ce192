use Rattle.std.proofs.Common.{◌≡◌, ◌++◌}
use Rattle.std.specs.Vec.Iter.{into_iter_items}
use Rattle.ep_layout.specs.Placed.{IsPlaced}
use Rattle.ep_layout.specs.Views.{named_view}
use Rattle.ep_layout.proofs.table.Types.placed.Given as goal

abbrev pub invariant-loop-name : goal.invariant-loop-name
invariant-loop-name l =
    (goal.iterator-loop-name).can_next l.name-iterator ×
    (goal.iterator-loop-name).is_finite l.name-iterator ×
    (l.fn.members.items ≡ l.yielded ++ into_iter_items l.name-iterator) ×
    IsPlaced l.self l.is_union (named_view l.yielded) l.placing
