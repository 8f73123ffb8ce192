use Rattle.std.proofs.Common.{◌≡◌, ◌++◌, drop}
use Rattle.ep_cells.specs.Reshare.{places}
use Rattle.ep_shared_parts.specs.Spread.{all_items}
use Rattle.ep_cell_parts.proofs.places.places.Given as goal

abbrev pub invariant-loop-part : goal.invariant-loop-part
invariant-loop-part g l = l.out.items ++ places (all_items (drop l.part-index l.parts)) ≡ places (all_items l.parts)
