use Rattle.std.proofs.Common.{◌≡◌, vec_len}
use Rattle.ep_cells.specs.Cells.{put_all}
use Rattle.ep_shared_parts.specs.Spread.{outlines, all_items, AreSpread}
use Rattle.ep_shared_parts.specs.Mentions.{number_of}
use Rattle.ep_cell_steps.specs.Killed.{AreShort}
use Rattle.ep_cell_steps.proofs.putting.put_all.Given as goal

abbrev pub invariant-loop-c : goal.invariant-loop-c
invariant-loop-c g l = record {
  spread : AreSpread (outlines number_of l.parts.items);
  short : AreShort (all_items l.parts.items);
  rest : put_all l.more.items (all_items l.parts.items) ≡ put_all l.fn.more.items (all_items l.fn.parts.items);
}

abbrev pub decreases-loop-c : goal.decreases-loop-c
decreases-loop-c g l = vec_len l.more
