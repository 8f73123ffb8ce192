use Rattle.std.proofs.Common.{◌≡◌, Some}
use Rattle.ep_call_graph.specs.View.{listed}
use Rattle.ep_call_graph.specs.Search.{IsSearchBut, IsCalled, tops}
use Rattle.ep_call_graph.proofs.cycles.Search.join.Given as goal

abbrev pub invariant-loop-group : goal.invariant-loop-group
invariant-loop-group l = record {
  stands : IsSearchBut (Some l.callee) (listed l.callees) l.self;
  called : IsCalled (listed l.callees) l.self.path.items (tops l.self.groups.items) l.callee;
  marks : l.self.marks ≡ l.fn.self.marks;
  path : l.self.path ≡ l.fn.self.path;
}

abbrev pub decreases-loop-group : goal.decreases-loop-group
decreases-loop-group l = goal.left-loop-group l
