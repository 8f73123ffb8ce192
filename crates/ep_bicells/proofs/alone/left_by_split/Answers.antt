use Rattle.ep_cells.specs.Forms.{reformed}
use Rattle.ep_reads.specs.Split.{fate_by_split, left_by_split}
use Rattle.ep_cell_changes.proofs.Turns.{turn}
use Rattle.ep_bicells.proofs.alone.left_by_split.Goals as goal

pub loop-y-preserved : goal.loop-y-preserved
loop-y-preserved g c =
    turn (reformed (fate_by_split c.args.side c.args.x.now)) (left_by_split c.args.side c.args.x.now) c.loop-y.out.items c.push_left_by_split.new.out.items _ c.args.cells.now c.loop-y.y-index
    c.y-item.result c.loop-y-test.true c.y-item.is c.in_ok-push_left_by_split.ensures c.loop-y.invariant
