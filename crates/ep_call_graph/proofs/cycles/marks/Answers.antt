use Rattle.std.proofs.Common.{rules}
use Rattle.ep_call_graph.proofs.Marks.{new_more}
use Rattle.ep_call_graph.proofs.cycles.marks.Goals as goal

pub loop-i-preserved : goal.loop-i-preserved
loop-i-preserved c = record {
  count = search rules;
  fresh = λ f. rw c.in_ok-push.ensures.items (new_more _ f c.loop-i.invariant.fresh);
}
