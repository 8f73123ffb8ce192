use Rattle.std.proofs.Common.{◌≡◌, drop}
use Rattle.ep_cells.specs.Look.{cell_at}
use Rattle.ep_shared_parts.specs.Spread.{all_items}
use Rattle.ep_bicells.proofs.cells.cell_in.Given as goal

abbrev pub invariant-loop-part : goal.invariant-loop-part
invariant-loop-part g l = cell_at l.model l.side l.block l.byte (all_items (drop l.part-index l.parts)) ≡ cell_at
    l.model l.side l.block l.byte (all_items l.parts)
