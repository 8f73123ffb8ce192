use Rattle.ep_cells.specs.Forms.{reformed}
use Rattle.ep_cell_rows.specs.Parts.{fate_by_unsharing}
use Rattle.ep_bicells.specs.Steps.{left_by_unsharing}
use Rattle.ep_cell_changes.proofs.Turns.{turn}
use Rattle.ep_bicells.proofs.unsharing.left_by_unsharing.Goals as goal

pub loop-x-preserved : goal.loop-x-preserved
loop-x-preserved g c =
    turn (reformed (fate_by_unsharing c.args.place)) (left_by_unsharing c.args.model c.args.place) c.loop-x.out.items
    c.push_left.new.out.items _ c.args.cells.now c.loop-x.x-index c.x-item.result c.loop-x-test.true c.x-item.is
    c.in_ok-push_left.ensures c.loop-x.invariant
