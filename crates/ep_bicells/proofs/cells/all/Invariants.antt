use Rattle.std.proofs.Common.{◌≡◌, ◌++◌, map, drop}
use Rattle.ep_shared_parts.specs.Spread.{all_items}
use Rattle.ep_bicells.proofs.cells.all.Given as goal

abbrev pub invariant-loop-part : goal.invariant-loop-part
invariant-loop-part g l = map (λ r. r.now) l.out.items ++ all_items (drop l.part-index l.parts) ≡ all_items l.parts
