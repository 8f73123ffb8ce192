use Rattle.std.proofs.Common.{◌≡◌, ℕ, vec_len}
use Rattle.ep_call_graph.specs.declared.cycles.Mark.TheVariants.{New}
use Rattle.ep_call_graph.specs.Search.{mark_of}
use Rattle.ep_call_graph.proofs.cycles.marks.Given as goal

abbrev pub invariant-loop-i : goal.invariant-loop-i
invariant-loop-i l = record { count : vec_len l.all ≡ l.i; fresh : (f : ℕ) → mark_of l.all.items f ≡ New }
