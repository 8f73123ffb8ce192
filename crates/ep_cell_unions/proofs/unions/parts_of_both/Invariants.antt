use Rattle.std.proofs.Common.{◌≡◌, ◌++◌, length, drop}
use Rattle.ep_cells.specs.Both.{cells_of_both}
use Rattle.ep_cell_rows.specs.Parts.{united}
use Rattle.ep_shared_parts.specs.Spread.{outlines, all_items}
use Rattle.ep_shared_parts.specs.Mentions.{number_of}
use Rattle.ep_shared_parts.specs.Walks.{IsAt, rest}
use Rattle.ep_cell_unions.proofs.unions.parts_of_both.Given as goal

abbrev pub invariant-loop-part : goal.invariant-loop-part
invariant-loop-part g l = record {
  at : IsAt l.at l.others;
  left : length (all_items (drop l.part-index l.parts)) ≡ length (rest l.at l.others);
  items : all_items l.out.items ++ cells_of_both (united g.N.Num.ops l.union) (all_items (drop l.part-index l.parts)) (rest l.at l.others) ≡ cells_of_both (united g.N.Num.ops l.union) (all_items l.parts) (all_items l.others);
  outlines : outlines number_of l.out.items ++ outlines number_of (drop l.part-index l.parts) ≡ outlines number_of l.parts;
}
