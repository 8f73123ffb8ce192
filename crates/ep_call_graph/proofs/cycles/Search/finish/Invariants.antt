use Rattle.std.proofs.Common.{◌≡◌, ℕ, length}
use Rattle.ep_call_graph.specs.Search.{mark_of}
use Rattle.ep_call_graph.proofs.Marks.{closed_between}
use Rattle.ep_call_graph.proofs.cycles.Search.finish.Given as goal

abbrev pub invariant-loop-place : goal.invariant-loop-place
invariant-loop-place l = record {
  marks : (f : ℕ) → mark_of l.self.marks.items f ≡ closed_between l.first l.place l.fn.self.done (mark_of l.fn.self.marks.items f);
  count : length l.self.marks.items ≡ length l.fn.self.marks.items;
  path : l.self.path ≡ l.fn.self.path;
  groups : l.self.groups ≡ l.fn.self.groups;
  pending : l.self.pending ≡ l.fn.self.pending;
  done : l.self.done ≡ l.fn.self.done;
}
