use Rattle.std.proofs.Common.{◌≡◌, ℕ, None, vec_len}
use Rattle.ep_typer_checks.specs.Placed.{slot}
use Rattle.ep_typer_checks.proofs.order.empty_slots.Given as goal

abbrev pub invariant-loop-i : goal.invariant-loop-i
invariant-loop-i l = record { count : vec_len l.all ≡ l.i; empty : (f : ℕ) → slot l.all.items f ≡ None }
