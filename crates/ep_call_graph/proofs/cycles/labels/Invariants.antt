use Rattle.std.proofs.Common.{◌≡◌, ℕ, ◌<◌, [], length}
use Rattle.ep_call_graph.specs.declared.cycles.Mark.TheVariants.{New}
use Rattle.ep_call_graph.specs.View.{listed}
use Rattle.ep_call_graph.specs.Search.{IsSearch, mark_of}
use Rattle.ep_call_graph.proofs.cycles.labels.Given as goal

abbrev pub invariant-loop-f : goal.invariant-loop-f
invariant-loop-f l = record {
  stands : IsSearch (listed l.callees) l.search;
  none : l.search.groups.items ≡ [];
  count : length l.search.marks.items ≡ length l.callees;
  come : (x : ℕ) → x < l.f → mark_of l.search.marks.items x ≡ New → ⊥;
}
