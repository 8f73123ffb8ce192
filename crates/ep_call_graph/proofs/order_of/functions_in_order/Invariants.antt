use Rattle.std.proofs.Common.{◌≡◌, [], drop, vec_len}
use Rattle.ep_elaboration.specs.Calls.{calls_of, one_after_another, with_function}
use Rattle.ep_call_graph.specs.View.{listed, call_sites}
use Rattle.ep_call_graph.specs.Visit.{IsOrder}
use Rattle.ep_call_graph.specs.View.{AreBelow}
use Rattle.ep_call_graph.proofs.order_of.functions_in_order.Given as goal

abbrev pub invariant-loop-f : goal.invariant-loop-f
invariant-loop-f l = record {
  count : vec_len l.order.has ≡ l.count;
  order : IsOrder l.count (listed l.lists.items) l.order;
  none : l.order.stack.items ≡ [];
  below : AreBelow l.count (drop l.f-index l.functions);
  done : one_after_another (with_function (calls_of (call_sites l.places)) l.count) l.order.done.items (drop l.f-index l.functions)
      ≡ one_after_another (with_function (calls_of (call_sites l.places)) l.count) [] l.functions;
}
