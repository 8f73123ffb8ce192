use Rattle.std.proofs.Common.{◌≡◌, ℕ, vec_len}
use Rattle.std.specs.Prelude.{slice_index}
use Rattle.ep_call_graph.proofs.deep.zeros.Given as goal

abbrev pub invariant-loop-i : goal.invariant-loop-i
invariant-loop-i l = record { count : vec_len l.all ≡ l.i; zero : (f : ℕ) → slice_index l.all.items f ≡ 0 }
