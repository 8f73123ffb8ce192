use Rattle.std.proofs.Common.{◌≡◌, drop}
use Rattle.ep_cells.specs.Both.{cell_like}
use Rattle.ep_shared_parts.specs.Spread.{all_items}
use Rattle.ep_bicells.proofs.cells.like_in.Given as goal

abbrev pub invariant-loop-part : goal.invariant-loop-part
invariant-loop-part g l = cell_like l.y (all_items (drop l.part-index l.parts)) ≡ cell_like l.y (all_items l.parts)
