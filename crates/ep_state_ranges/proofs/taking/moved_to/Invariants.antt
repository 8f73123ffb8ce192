use Rattle.std.proofs.Common.{◌≡◌, ◌++◌, map}
use Rattle.std.specs.Vec.Iter.{into_iter_items}
use Rattle.ep_cells.specs.States.{Each}
use Rattle.ep_cell_ranges.specs.Moves.{moved_to}
use Rattle.ep_state_ranges.specs.Taken.{MovesWithin}
use Rattle.ep_state_ranges.proofs.taking.moved_to.Given as goal

abbrev pub invariant-loop-x : goal.invariant-loop-x
invariant-loop-x g l = record {
  moved : l.out.items ++ map (moved_to l.from l.to) (into_iter_items l.x-iterator)
      ≡ map (moved_to l.from l.to) l.fn.cells.items;
  within : Each (MovesWithin l.from l.to) (into_iter_items l.x-iterator);
}
