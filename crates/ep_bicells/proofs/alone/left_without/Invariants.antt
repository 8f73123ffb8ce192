use Rattle.std.proofs.Common.{◌≡◌, ◌++◌, map, drop}
use Rattle.ep_cells.specs.Cells.{each_becomes}
use Rattle.ep_cells.specs.Forms.{reformed}
use Rattle.ep_reads.specs.Unify.{left_by_crossing}
use Rattle.ep_bicells.specs.Steps.{fate_to}
use Rattle.ep_bicells.proofs.alone.left_without.Given as goal

abbrev pub invariant-loop-y : goal.invariant-loop-y
invariant-loop-y g l =
    l.out.items ++ map (reformed (fate_to l.to l.x)) (each_becomes (left_by_crossing l.x) (drop l.y-index l.cells))
    ≡ map (reformed (fate_to l.to l.x)) (each_becomes (left_by_crossing l.x) l.cells)
