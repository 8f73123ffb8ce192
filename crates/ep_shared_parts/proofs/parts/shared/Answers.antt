use Rattle.std.proofs.Common.{arith}
use Rattle.ep_shared_parts.proofs.Steps.{outlines_step, items_step}
use Rattle.ep_shared_parts.proofs.parts.shared.Goals as goal

pub loop-part-preserved : goal.loop-part-preserved
loop-part-preserved g c = record {
  outlines = outlines_step g.T.Numbered.number c.loop-part.out.items c.push.new.out.items c.args.parts.now c.loop-part.part-index c.part-item.result c.in_ok-shared_part.field-0 c.in_ok-push.ensures c.in_ok-shared_part.ensures.start c.in_ok-shared_part.ensures.items (omega arith) c.part-item.is c.loop-part.invariant.outlines;
  items = items_step c.loop-part.out.items c.push.new.out.items c.args.parts.now c.loop-part.part-index c.part-item.result c.in_ok-shared_part.field-0 c.in_ok-push.ensures c.in_ok-shared_part.ensures.items (omega arith) c.part-item.is c.loop-part.invariant.items;
}
