use Rattle.std.proofs.Common.{◌≡◌, drop}
use Rattle.ep_cells.specs.Look.{is_some_partly_in}
use Rattle.ep_shared_parts.specs.Spread.{all_items}
use Rattle.ep_bicells.proofs.cells.is_some_partly.Given as goal

abbrev pub invariant-loop-part : goal.invariant-loop-part
invariant-loop-part g l = is_some_partly_in l.model l.p (all_items (drop l.part-index l.parts)) ≡ is_some_partly_in
    l.model l.p (all_items l.parts)
