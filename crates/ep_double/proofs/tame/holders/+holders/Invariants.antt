use Rattle.std.proofs.Common.{◌≡◌, ◌<◌, ◌≤◌, length, ◌+◌, ◌*◌}
use Rattle.ep_layout.specs.Table.{IsBuilt}
use Rattle.ep_layout.specs.Views.{members_view}
use Rattle.ep_double.specs.Holders.{holds, levels, rows_levels, AreThere}
use Rattle.ep_double.proofs.Answered.{NoneBefore}
use Rattle.ep_double.proofs.tame.holders.+holders.Given as goal

abbrev pub decreases-holds : goal.decreases-holds
decreases-holds l = 4 * levels l.types.now l.ty + 2

abbrev pub decreases-has_array : goal.decreases-has_array
decreases-has_array l = 4 * levels l.types.now l.ty + 3

abbrev pub decreases-look_at : goal.decreases-look_at
decreases-look_at l = 4 * levels l.types.now l.ty + 1

abbrev pub decreases-other_has : goal.decreases-other_has
decreases-other_has l = 4 * rows_levels l.types.now (members_view l.members.now) + 4

abbrev pub invariant-holds-loop-part : goal.invariant-holds-loop-part
invariant-holds-loop-part l = record {
  built : IsBuilt l.types;
  same : l.types ≡ l.fn.types;
  there : l.at < length l.types.types;
  is : holds l.types l.at ≡ holds l.types l.fn.ty;
  lower : levels l.types l.at ≤ levels l.types l.fn.ty;
}

abbrev pub decreases-holds-loop-part : goal.decreases-holds-loop-part
decreases-holds-loop-part l = levels l.types l.at + 1

-- those before have no array
abbrev pub invariant-other_has-loop-i : goal.invariant-other_has-loop-i
invariant-other_has-loop-i l = record {
  built : IsBuilt l.types;
  there : AreThere l.types (members_view l.members);
  none : NoneBefore l.types (members_view l.members) l.spared l.i;
}
