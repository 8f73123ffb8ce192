use Rattle.std.proofs.Common.{◌≡◌, ℕ, [], vec_len}
use Rattle.ep_call_graph.specs.View.{listed}
use Rattle.ep_call_graph.proofs.deep.empty_lists.Given as goal

abbrev pub invariant-loop-i : goal.invariant-loop-i
invariant-loop-i l = record { count : vec_len l.lists ≡ l.i; empty : (f : ℕ) → listed l.lists.items f ≡ [] }
