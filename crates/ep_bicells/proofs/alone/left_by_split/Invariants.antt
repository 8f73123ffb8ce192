use Rattle.std.proofs.Common.{◌≡◌, ◌++◌, map, drop}
use Rattle.ep_cells.specs.Cells.{each_becomes}
use Rattle.ep_cells.specs.Forms.{reformed}
use Rattle.ep_reads.specs.Split.{fate_by_split, left_by_split}
use Rattle.ep_bicells.proofs.alone.left_by_split.Given as goal

abbrev pub invariant-loop-y : goal.invariant-loop-y
invariant-loop-y g l =
    l.out.items ++ map (reformed (fate_by_split l.side l.x)) (each_becomes (left_by_split l.side l.x) (drop l.y-index l.cells))
    ≡ map (reformed (fate_by_split l.side l.x)) (each_becomes (left_by_split l.side l.x) l.cells)
