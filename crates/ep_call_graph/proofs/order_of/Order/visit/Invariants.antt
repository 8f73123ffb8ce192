use Rattle.std.proofs.Common.{◌≡◌, ℕ, List, vec_len}
use Rattle.ep_call_graph.specs.View.{listed}
use Rattle.ep_call_graph.specs.Visit.{IsOrder, IsVisit, finished, frames}
use Rattle.ep_call_graph.proofs.order_of.Order.visit.Given as goal

abbrev pub invariant-loop-turn : goal.invariant-loop-turn
invariant-loop-turn l = record {
  count : vec_len l.self.has ≡ vec_len l.fn.self.has;
  order : IsOrder (vec_len l.fn.self.has) (listed l.callees) l.self;
  finishes : (visit : List ℕ → ℕ → List ℕ) → IsVisit (listed l.callees) visit
      → finished (listed l.callees) visit (frames l.self.stack.items) l.self.done.items ≡ visit l.fn.self.done.items l.f;
}
