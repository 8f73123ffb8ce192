use Rattle.ep_cell_changes.proofs.Turns.{place_turn}
use Rattle.ep_cell_changes.proofs.reshare.places.Goals as goal

pub loop-c-preserved : goal.loop-c-preserved
loop-c-preserved g c =
    place_turn c.loop-c.out.items c.push_place.new.out.items _ c.args.cells.now c.loop-c.c-index c.c-item.result
    c.loop-c-test.true c.c-item.is c.in_ok-push_place.ensures c.loop-c.invariant
