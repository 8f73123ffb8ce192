use Rattle.std.proofs.Common.{◌≡◌, ℕ, true, drop, take, vec_len}
use Rattle.std.specs.Prelude.{slice_index}
use Rattle.ep_int.specs.Memory.{contains}
use Rattle.ep_elaboration.specs.Calls.{calls_of, function_depth}
use Rattle.ep_elaboration.specs.Leads.{AreInOrder}
use Rattle.ep_call_graph.specs.View.{call_sites}
use Rattle.ep_call_graph.specs.View.{AreBelow}
use Rattle.ep_call_graph.proofs.deep.depths.Given as goal

abbrev pub invariant-loop-f : goal.invariant-loop-f
invariant-loop-f l = record {
  count : vec_len l.depths ≡ l.count;
  below : AreBelow l.count (drop l.f-index l.order);
  in_order : AreInOrder (calls_of (call_sites l.places)) (take l.f-index l.order) (drop l.f-index l.order);
  right : (f : ℕ) → contains f (take l.f-index l.order) ≡ true
      → slice_index l.depths.items f ≡ function_depth (call_sites l.places) l.count f;
}
