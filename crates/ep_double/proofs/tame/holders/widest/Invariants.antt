use Rattle.std.proofs.Common.{◌<◌, length}
use Rattle.ep_layout.specs.Views.{members_view}
use Rattle.ep_double.specs.Holders.{AreThere}
use Rattle.ep_double.proofs.tame.holders.widest.Given as goal

abbrev pub invariant-loop-i : goal.invariant-loop-i
invariant-loop-i l = (l.widest < length l.members) × AreThere l.types (members_view l.members)
