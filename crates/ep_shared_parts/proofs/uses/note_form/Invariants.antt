use Rattle.std.proofs.Common.{take}
use Rattle.ep_shared_parts.specs.declared.uses.Use.{Use}
use Rattle.ep_shared_parts.specs.Spread.{outlines, all_items, AreSpread}
use Rattle.ep_shared_parts.specs.Mentions.{number_of_use, IsNoted, AllNoted}
use Rattle.ep_shared_parts.proofs.uses.note_form.Given as goal

abbrev pub invariant-loop-s : goal.invariant-loop-s
invariant-loop-s l = record {
  spread : AreSpread (outlines number_of_use l.parts.items);
  keeps : (v : Use) → IsNoted (all_items l.fn.parts.items) v → IsNoted (all_items l.parts.items) v;
  noted : AllNoted (all_items l.parts.items) l.by (take l.s-index l.form);
}
