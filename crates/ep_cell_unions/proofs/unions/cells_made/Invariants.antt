use Rattle.std.proofs.Common.{◌≡◌, ◌++◌, drop}
use Rattle.ep_cells.specs.Both.{cells_of_both}
use Rattle.ep_cell_rows.specs.Parts.{united}
use Rattle.ep_shared_parts.specs.Walks.{IsAt, rest}
use Rattle.ep_cell_unions.proofs.unions.cells_made.Given as goal

abbrev pub invariant-loop-x : goal.invariant-loop-x
invariant-loop-x g l = record {
  at : IsAt l.behind l.others;
  left : rest l.behind l.others ≡ drop l.x-index (rest l.fn.at l.others);
  items : l.out.items ++ cells_of_both (united g.N.Num.ops l.union) (drop l.x-index l.cells) (rest l.behind l.others) ≡ cells_of_both (united g.N.Num.ops l.union) l.cells (rest l.fn.at l.others);
}
