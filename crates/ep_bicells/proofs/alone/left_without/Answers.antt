use Rattle.ep_cells.specs.Forms.{reformed}
use Rattle.ep_reads.specs.Unify.{left_by_crossing}
use Rattle.ep_bicells.specs.Steps.{fate_to}
use Rattle.ep_cell_changes.proofs.Turns.{turn}
use Rattle.ep_bicells.proofs.alone.left_without.Goals as goal

pub loop-y-preserved : goal.loop-y-preserved
loop-y-preserved g c =
    turn (reformed (fate_to c.args.to c.args.x.now)) (left_by_crossing c.args.x.now) c.loop-y.out.items c.push_left.new.out.items _ c.args.cells.now c.loop-y.y-index
    c.y-item.result c.loop-y-test.true c.y-item.is c.in_ok-push_left.ensures c.loop-y.invariant
