use Rattle.std.proofs.Common.{◌≡◌}
use Rattle.ep_call_graph.specs.declared.cycles.Mark.TheVariants.{New}
use Rattle.ep_call_graph.specs.View.{listed}
use Rattle.ep_call_graph.specs.Search.{IsSearch, GoesOn, mark_of}
use Rattle.ep_call_graph.proofs.cycles.Search.search.Given as goal

abbrev pub invariant-loop-turn : goal.invariant-loop-turn
invariant-loop-turn l = record {
  stands : IsSearch (listed l.callees) l.self;
  goes_on : GoesOn l.fn.self l.self;
  no_more_new : mark_of l.self.marks.items l.f ≡ New → ⊥;
}
