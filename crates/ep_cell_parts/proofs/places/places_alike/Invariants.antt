use Rattle.std.proofs.Common.{◌≡◌, ◌↔◌, ◌++◌, length}
use Rattle.ep_cells.specs.States.{HaveCellsAlike}
use Rattle.ep_cells.specs.Reshare.{places}
use Rattle.ep_shared_parts.specs.Spread.{all_items}
use Rattle.ep_shared_parts.specs.Walks.{IsAt, rest}
use Rattle.ep_cell_parts.proofs.places.places_alike.Given as goal

abbrev pub invariant-loop-x : goal.invariant-loop-x
invariant-loop-x g l = record {
  left : IsAt l.a l.xs;
  right : IsAt l.b l.ys;
  same : HaveCellsAlike (rest l.a l.xs) (rest l.b l.ys) ↔ HaveCellsAlike (all_items l.xs) (all_items l.ys);
  places : l.out.items ++ places (rest l.a l.xs) ≡ places (all_items l.xs);
}

abbrev pub decreases-loop-x : goal.decreases-loop-x
decreases-loop-x g l = length (rest l.a l.xs)
