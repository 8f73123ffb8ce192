use Rattle.ep_cells.specs.Cells.{put_all}
use Rattle.ep_shared_parts.specs.Spread.{all_items}
use Rattle.ep_cell_rows.proofs.Order.{put_all_turn}
use Rattle.ep_cell_steps.proofs.putting.put_all.Goals as goal

pub loop-c-preserved : goal.loop-c-preserved
loop-c-preserved g c = record {
  spread = c.in_ok-put.ensures.spread;
  short = c.in_ok-put.ensures.short;
  rest = put_all_turn c.loop-c.more.items c.pop.new.self.items (all_items c.loop-c.parts.items) (all_items c.put.new.parts.items) (put_all c.args.more.items (all_items c.args.parts.now.items)) c.in-Some.c c.in-Some.ensures.items c.in_ok-put.ensures.items c.loop-c.invariant.rest;
}
