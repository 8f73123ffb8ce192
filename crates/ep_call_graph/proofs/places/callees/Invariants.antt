use Rattle.std.proofs.Common.{◌≡◌, ℕ, ◌++◌, drop, vec_len}
use Rattle.ep_elaboration.specs.Calls.{callees, calls_of}
use Rattle.ep_call_graph.specs.View.{AreWithin, listed, call_sites}
use Rattle.ep_call_graph.proofs.places.callees.Given as goal

abbrev pub invariant-loop-place : goal.invariant-loop-place
invariant-loop-place l = record {
  count : vec_len l.lists ≡ l.count;
  within : AreWithin l.count (call_sites (drop l.place-index l.places));
  lists : (f : ℕ) → listed l.lists.items f ++ callees (calls_of (call_sites (drop l.place-index l.places))) f
      ≡ callees (calls_of (call_sites l.places)) f;
}
