use Rattle.std.proofs.Common.{◌≡◌, length}
use Rattle.ep_cells.specs.Both.{are_within}
use Rattle.ep_shared_parts.specs.Spread.{all_items}
use Rattle.ep_shared_parts.specs.Walks.{IsAt, rest}
use Rattle.ep_bicells.proofs.cells.are_within.Given as goal

abbrev pub invariant-loop-y : goal.invariant-loop-y
invariant-loop-y g l = record {
  left : IsAt l.a l.xs;
  right : IsAt l.b l.ys;
  same : are_within g.N.Num.ops (all_items l.xs) (rest l.b l.ys) ≡ are_within g.N.Num.ops (all_items l.xs) (all_items l.ys);
}

abbrev pub decreases-loop-y : goal.decreases-loop-y
decreases-loop-y g l = length (rest l.b l.ys)
