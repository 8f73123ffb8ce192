use Rattle.std.proofs.Common.{◌≡◌, ◌++◌, map, drop}
use Rattle.ep_cells.specs.Cells.{each_becomes}
use Rattle.ep_cells.specs.Forms.{reformed}
use Rattle.ep_cells.specs.Kill.{left_by_kill, fate_by_kill}
use Rattle.ep_cell_changes.proofs.kill.left_by_kill.Given as goal

abbrev pub invariant-loop-x : goal.invariant-loop-x
invariant-loop-x g l =
    l.out.items ++ map (reformed (fate_by_kill l.side l.block)) (each_becomes (left_by_kill l.side l.block) (drop
    l.x-index l.cells))
    ≡ map (reformed (fate_by_kill l.side l.block)) (each_becomes (left_by_kill l.side l.block) l.cells)
