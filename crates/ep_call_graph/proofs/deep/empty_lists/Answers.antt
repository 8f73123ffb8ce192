use Rattle.std.proofs.Common.{rules}
use Rattle.ep_call_graph.proofs.Lists.{listed_more}
use Rattle.ep_call_graph.proofs.deep.empty_lists.Goals as goal

pub loop-i-preserved : goal.loop-i-preserved
loop-i-preserved c = record {
  count = search rules;
  empty = λ f. rw c.in_ok-push.ensures.items (listed_more _ _ f c.new.ensures.items c.loop-i.invariant.empty);
}
