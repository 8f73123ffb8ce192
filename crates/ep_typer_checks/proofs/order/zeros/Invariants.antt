use Rattle.std.proofs.Common.{◌≡◌, ℕ, vec_len, slice_index}
use Rattle.ep_typer_checks.proofs.order.zeros.Given as goal

abbrev pub invariant-loop-i : goal.invariant-loop-i
invariant-loop-i l = record { count : vec_len l.all ≡ l.i; zero : (f : ℕ) → slice_index l.all.items f ≡ 0 }
