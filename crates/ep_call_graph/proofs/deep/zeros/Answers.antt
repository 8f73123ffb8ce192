use Rattle.std.proofs.Common.{rules}
use Rattle.ep_call_graph.proofs.DepthLemmas.{zero_more}
use Rattle.ep_call_graph.proofs.deep.zeros.Goals as goal

pub loop-i-preserved : goal.loop-i-preserved
loop-i-preserved c = record {
  count = search rules;
  zero = λ f. rw c.in_ok-push.ensures.items (zero_more _ f c.loop-i.invariant.zero);
}
