use Rattle.std.proofs.Common.{◌≡◌, ℕ, false, vec_len}
use Rattle.std.specs.Prelude.{slice_index_or}
use Rattle.ep_call_graph.proofs.order_of.flags.Given as goal

abbrev pub invariant-loop-i : goal.invariant-loop-i
invariant-loop-i l = record { count : vec_len l.all ≡ l.i; none : (f : ℕ) → slice_index_or l.all.items f false ≡ false }
