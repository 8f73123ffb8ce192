use Rattle.ep_shared_parts.specs.declared.uses.Use.{Use}
use Rattle.ep_shared_parts.specs.Spread.{outlines, all_items, AreSpread}
use Rattle.ep_shared_parts.specs.Mentions.{number_of_use, IsNoted}
use Rattle.ep_cell_steps.proofs.Making.{AreNotedTo}
use Rattle.ep_cell_steps.proofs.changes.note_all.Given as goal

abbrev pub invariant-loop-c : goal.invariant-loop-c
invariant-loop-c g l = record {
  spread : AreSpread (outlines number_of_use l.uses.items);
  keeps : (v : Use) → IsNoted (all_items l.fn.uses.items) v → IsNoted (all_items l.uses.items) v;
  noted : AreNotedTo (all_items l.uses.items) l.c-index l.cells;
}
