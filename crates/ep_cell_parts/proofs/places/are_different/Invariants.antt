use Rattle.std.proofs.Common.{◌≡◌, drop}
use Rattle.ep_shared_parts.specs.Spread.{all_items}
use Rattle.ep_cell_parts.specs.Alike.{are_different}
use Rattle.ep_cell_parts.proofs.places.are_different.Given as goal

abbrev pub invariant-loop-p : goal.invariant-loop-p
invariant-loop-p g l = are_different g.N.Num.ops (all_items l.parts) (drop l.p-index l.places) ≡ are_different g.N.Num.ops (all_items l.parts) l.places
