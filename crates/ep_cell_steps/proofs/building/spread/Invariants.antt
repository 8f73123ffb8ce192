use Rattle.std.proofs.Common.{◌≡◌, ◌++◌, map}
use Rattle.std.specs.Vec.Iter.{into_iter_items}
use Rattle.ep_shared_parts.specs.Spread.{all_items}
use Rattle.ep_shared_parts.specs.Mentions.{number_of}
use Rattle.ep_cell_steps.specs.Opened.{IsOpen}
use Rattle.ep_cell_steps.proofs.Cutting.{AreRising}
use Rattle.ep_cell_steps.proofs.building.spread.Given as goal

abbrev pub invariant-loop-c : goal.invariant-loop-c
invariant-loop-c g l = record {
  is : IsOpen l.parts.items l.growing.start l.growing.last l.growing.cells.items;
  rising : AreRising l.growing.last (map number_of (into_iter_items l.c-iterator));
  whole : (all_items l.parts.items ++ l.growing.cells.items) ++ into_iter_items l.c-iterator ≡ l.fn.cells.items;
}
