use Rattle.ep_cells.specs.Forms.{reformed}
use Rattle.ep_cells.specs.Weaken.{fate_by_weak_write}
use Rattle.ep_cell_ranges.specs.Ranges.{left_by_blur}
use Rattle.ep_cell_changes.proofs.Turns.{turn}
use Rattle.ep_bicells.proofs.blur.left_by_blur.Goals as goal

pub loop-x-preserved : goal.loop-x-preserved
loop-x-preserved g c =
    turn (reformed (fate_by_weak_write c.args.place)) (left_by_blur g.N.Num.ops c.args.model c.args.place) c.loop-x.out.items c.push_left.new.out.items _ c.args.cells.now c.loop-x.x-index c.x-item.result c.loop-x-test.true c.x-item.is c.in_ok-push_left.ensures c.loop-x.invariant
