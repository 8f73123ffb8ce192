use Rattle.ep_cell_rows.proofs.Order.{put_all_turn}
use Rattle.ep_cell_rows.proofs.rows.put_all.Goals as goal

pub loop-c-preserved : goal.loop-c-preserved
loop-c-preserved g c =
    put_all_turn c.loop-c.more.items c.pop.new.self.items c.loop-c.cells.items c.put.new.cells.items _ c.in-Some.c
    c.in-Some.ensures.items c.in_ok-put.ensures c.loop-c.invariant
