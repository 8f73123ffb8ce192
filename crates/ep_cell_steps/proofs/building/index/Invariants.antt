use Rattle.ep_shared_parts.specs.Spread.{outlines, all_items, AreSpread}
use Rattle.ep_shared_parts.specs.Mentions.{number_of_use}
use Rattle.ep_cell_steps.proofs.Making.{AreNotedTo}
use Rattle.ep_cell_steps.proofs.building.index.Given as goal

abbrev pub invariant-loop-c : goal.invariant-loop-c
invariant-loop-c g l = record {
  spread : AreSpread (outlines number_of_use l.uses.items);
  noted : AreNotedTo (all_items l.uses.items) l.c-index l.cells;
}
