use Rattle.std.proofs.Common.{◌≡◌, ℕ, ◌<◌, false, length}
use Rattle.ep_layout.specs.Table.{is_union}
use Rattle.ep_double.proofs.tame.types.has_no_union.Given as goal

abbrev pub invariant-loop-a : goal.invariant-loop-a
invariant-loop-a l = record {
  end : l.a-end ≡ length l.types.aggregates;
  so_far : (a : ℕ) → a < l.a → is_union l.types a ≡ false;
}
