use Rattle.std.proofs.Common.{◌≡◌, ◌++◌, map}
use Rattle.std.specs.Vec.Iter.{into_iter_items}
use Rattle.ep_shared_parts.specs.Spread.{all_items}
use Rattle.ep_bicells.proofs.cells.copied.Given as goal

abbrev pub invariant-loop-c : goal.invariant-loop-c
invariant-loop-c g l = l.out.items ++ map (λ r. r.now) (into_iter_items l.c-iterator) ≡ all_items l.parts
