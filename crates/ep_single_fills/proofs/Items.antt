-- What is underway is written at one place of each running side: a state stands for one pair of memories still.
use Rattle.std.proofs.Common.{◌≡◌, Bool, true, false, ◌&&◌, cond, [], ◌∷◌, refl, sym, subst}
use Rattle.ep_cell_ranges.proofs.Basics.{same_spot}
use Rattle.ep_int.specs.declared.types.Scalar.{Scalar}
use Rattle.ep_int.specs.Memory.{Value as Datum}
use Rattle.ep_domain.specs.Domain.{Ops, Lawful}
use Rattle.ep_cells.specs.States.{Known}
use Rattle.ep_cells.specs.Meaning.{Memories}
use Rattle.ep_cell_ranges.specs.Spots.{Spot, all_spots}
use Rattle.ep_equalities.specs.declared.pair.Mode.{Mode}
use Rattle.ep_equalities.specs.declared.pair.Mode.TheVariants.{Both, Left, Right}
use Rattle.ep_equalities.specs.declared.pair.PairValue.{PairValue}
use Rattle.ep_equalities.specs.Pairs.{runs_left, runs_right}
use Rattle.ep_evaluation.specs.Given.{pair}
use Rattle.ep_transfers.specs.Places.{Places}
use Rattle.ep_transfers.specs.Writes.{Item, Underway, underway, item_of, write_shared, write_shared_each, write_both}
use Rattle.ep_transfers.specs.Writes.{write}
use Rattle.ep_singles.specs.Numbers.{KeepsSingles}
use Rattle.ep_singles.specs.Cells.{IsOne}
use Rattle.ep_single_stores.specs.Laws.{IsStoredAt, IsOneToStore}
use Rattle.ep_single_stores.proofs.Writes.{writes_keep_one}

-- values that are surely there
abbrev pub sure_item : {N : Type 0} → PairValue N → (same : Bool) → Item N
sure_item v same = record { pair = v; left_maybe = false; right_maybe = false; same = same }

module _ {N : Type 0} (D : Ops N) (law : Lawful D) (keeps : KeepsSingles D) (w : Scalar) (q r : Spot) (x y : Datum)
    (m n : Memories) where
  module _ (k : Known N) (one : IsOne D k m) (v : PairValue N) (same : Bool) where
    -- the same values, known to be equal
    abbrev alike : PairValue N
    alike = pair v.left v.right true

    abbrev places : Places
    places = record { left = q ∷ []; right = r ∷ [] }

    sure_written : (mode : Mode) (to : Bool)
        → (runs_left mode ≡ true → IsOneToStore D k m q w v.left.value v.left.form x)
        → (runs_right mode ≡ true → IsOneToStore D k m r w v.right.value v.right.form y)
        → IsStoredAt k.orders.0 k.model w q x (runs_left mode) m.left n.left
        → IsStoredAt k.orders.1 k.model w r y (runs_right mode) m.right n.right
        → (mode ≡ Both → (to && same) ≡ true → (q ≡ r) × (x ≡ y))
        → IsOne D (write D mode to w places (underway k (sure_item v same))).known n
    sure_written Left to h i l t equal =
        writes_keep_one D law keeps k m n one Left false w q r alike x y h i l t
        (λ e f. absurd (let d : false ≡ true = f in cc))
    sure_written Right to h i l t equal =
        writes_keep_one D law keeps k m n one Right false w q r alike x y h i l t
        (λ e f. absurd (let d : false ≡ true = f in cc))
    sure_written Both to h i l t equal = by (to && same) refl
      where
        shared : (e : q ≡ r) → x ≡ y → IsOne D (write_shared D w q (underway k (item_of D alike))).known n
        shared e f =
            subst (λ b. IsOne D (cond b (write_shared D w q (underway k (item_of D alike)))
            (write_shared_each D w (all_spots (q ∷ []) (r ∷ [])) (underway k (item_of D alike)))).known n)
            (same_spot q r e)
            (writes_keep_one D law keeps k m n one Both true w q r alike x y h i l t (λ z f' s. (e, f)))

        by : (b : Bool) → (to && same) ≡ b → IsOne D (write_both D b w places (underway k (sure_item v same))).known n
        by true e =
            let s = equal refl e in
            subst (λ b. IsOne D (cond b (write_shared D w q (underway k (sure_item v same)))
            (write_shared_each D w (all_spots (q ∷ []) (r ∷ [])) (underway k (sure_item v same)))).known n)
            (sym (same_spot q r s.0)) (shared s.0 s.1)
        by false e =
            writes_keep_one D law keeps k m n one Both false w q r alike x y h i l t
            (λ z f. absurd (let d : false ≡ true = f in cc))

  -- what is underway, with values that are surely there
  pub item_written : (u : Underway N) → IsOne D u.known m → u.item.left_maybe ≡ false → u.item.right_maybe ≡ false
      → (mode : Mode) (to : Bool)
      → (runs_left mode ≡ true → IsOneToStore D u.known m q w u.item.pair.left.value u.item.pair.left.form x)
      → (runs_right mode ≡ true → IsOneToStore D u.known m r w u.item.pair.right.value u.item.pair.right.form y)
      → IsStoredAt u.known.orders.0 u.known.model w q x (runs_left mode) m.left n.left
      → IsStoredAt u.known.orders.1 u.known.model w r y (runs_right mode) m.right n.right
      → (mode ≡ Both → (to && u.item.same) ≡ true → (q ≡ r) × (x ≡ y))
      → IsOne D (write D mode to w (record { left = q ∷ []; right = r ∷ [] }) u).known n
  item_written u one el er mode to h i l t equal =
      subst (λ b. IsOne D (write D mode to w (record { left = q ∷ []; right = r ∷ [] }) (underway u.known
      (record { pair = u.item.pair; left_maybe = b; right_maybe = u.item.right_maybe; same = u.item.same }))).known n)
      (sym el)
      (subst (λ b. IsOne D (write D mode to w (record { left = q ∷ []; right = r ∷ [] }) (underway u.known
      (record { pair = u.item.pair; left_maybe = false; right_maybe = b; same = u.item.same }))).known n) (sym er)
      (sure_written u.known one u.item.pair u.item.same mode to h i l t equal))
