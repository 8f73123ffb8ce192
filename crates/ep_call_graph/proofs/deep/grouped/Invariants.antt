use Rattle.std.proofs.Common.{◌≡◌, ℕ, max, drop, vec_len}
use Rattle.ep_elaboration.specs.Calls.{call_sites_in, deepest}
use Rattle.ep_call_graph.specs.ByCaller.{deepest_kept}
use Rattle.ep_call_graph.specs.View.{AreWithin, call_sites}
use Rattle.ep_call_graph.proofs.deep.grouped.Given as goal

abbrev pub invariant-loop-place : goal.invariant-loop-place
invariant-loop-place l = record {
  deepest_count : vec_len l.groups.deepest ≡ l.count;
  calling_count : vec_len l.groups.calling ≡ l.count;
  within : AreWithin l.count (call_sites (drop l.place-index l.places));
  deep : (below : ℕ → ℕ) → (f : ℕ)
      → max (deepest_kept below l.groups f) (deepest below (call_sites_in (call_sites (drop l.place-index l.places)) f))
      ≡ deepest below (call_sites_in (call_sites l.places) f);
}
