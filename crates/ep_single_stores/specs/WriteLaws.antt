-- A pair of values is written at one place of each running side, where a state stands for one pair of memories alone
-- (C11 6.5.16p3; this project's rules).
use Rattle.std.specs.Prelude.{◌≡◌, Bool, true, [], ◌∷◌}
use Rattle.ep_int.specs.declared.types.Scalar.{Scalar}
use Rattle.ep_int.specs.Memory.{Value as Datum}
use Rattle.ep_domain.specs.Domain.{Ops}
use Rattle.ep_cells.specs.States.{Known}
use Rattle.ep_cells.specs.Meaning.{Memories}
use Rattle.ep_cell_ranges.specs.Spots.{Spot}
use Rattle.ep_equalities.specs.declared.pair.Mode.{Mode}
use Rattle.ep_equalities.specs.declared.pair.Mode.TheVariants.{Both}
use Rattle.ep_equalities.specs.declared.pair.PairValue.{PairValue}
use Rattle.ep_equalities.specs.Pairs.{runs_left, runs_right}
use Rattle.ep_equalities.specs.Same.{is_same}
use Rattle.ep_transfers.specs.Writes.{item_of, write_now}
use Rattle.ep_singles.specs.Numbers.{KeepsSingles}
use Rattle.ep_singles.specs.Cells.{IsOne}
use Rattle.ep_single_stores.specs.Laws.{IsStoredAt, IsOneToStore}

-- Where the addresses and the values are known to be the same, they are.
abbrev pub WritesKeepOne : {N : Type 0} → Ops N → Type 0
WritesKeepOne {N = N} D =
    KeepsSingles D → (k : Known N) (m n : Memories) → IsOne D k m → (mode : Mode) (same_to : Bool) (w : Scalar)
    (q r : Spot) (v : PairValue N) (x y : Datum)
    → (runs_left mode ≡ true → IsOneToStore D k m q w v.left.value v.left.form x)
    → (runs_right mode ≡ true → IsOneToStore D k m r w v.right.value v.right.form y)
    → IsStoredAt k.orders.0 k.model w q x (runs_left mode) m.left n.left
    → IsStoredAt k.orders.1 k.model w r y (runs_right mode) m.right n.right
    → (mode ≡ Both → same_to ≡ true → is_same D v ≡ true → (q ≡ r) × (x ≡ y))
    → IsOne D (write_now D mode same_to w (record { left = q ∷ []; right = r ∷ [] }) (item_of D v) k) n
