use Rattle.std.proofs.Common.{◌≡◌, drop}
use Rattle.ep_cells.specs.Reshare.{cell_from}
use Rattle.ep_shared_parts.specs.Spread.{all_items}
use Rattle.ep_cell_parts.proofs.places.cell_in.Given as goal

abbrev pub invariant-loop-part : goal.invariant-loop-part
invariant-loop-part g l = cell_from l.side l.block l.offset (all_items (drop l.part-index l.parts)) ≡ cell_from l.side l.block l.offset (all_items l.parts)
