use Rattle.std.proofs.Common.{◌≡◌, ◌≤◌, ℕ, length, drop, vec_len, slice_index}
use Rattle.ep_typer_checks.proofs.Placing.{place_from}
use Rattle.ep_typer_checks.proofs.order.places_in.Given as goal

abbrev pub invariant-places : goal.invariant-places
invariant-places l = record {
  count : vec_len l.all ≡ l.count;
  within : l.left ≤ length l.order;
  places : (f : ℕ) → slice_index l.all.items f ≡ place_from l.left (drop l.left l.order) f;
}

abbrev pub decreases-places : goal.decreases-places
decreases-places l = l.left
