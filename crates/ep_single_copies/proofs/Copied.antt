-- What is known after a copy from one place to one on each running side, where a state stands for one pair of memories
-- alone.
use Rattle.std.proofs.Common.{◌≡◌, ℕ, ◌+◌, ◌^◌, ◌≤◌, Bool, true, false, ◌&&◌, if◌then◌else◌, [], ◌∷◌, is_some, refl, sym}
use Rattle.std.proofs.Common.{map, subst}
use Rattle.std.proofs.lemmas.Bool.{and_from}
use Rattle.ep_int.specs.declared.types.Model.{Model}
use Rattle.ep_int.specs.Memory.{Memory}
use Rattle.ep_bitslice.specs.declared.cell.Side.TheVariants as cell_side
use Rattle.ep_domain.specs.Domain.{Ops, Lawful}
use Rattle.ep_cells.specs.States.{Known}
use Rattle.ep_cells.specs.Meaning.{Memories}
use Rattle.ep_cell_ranges.specs.Moves.{place_at, moved_to, taken, taken_by_both}
use Rattle.ep_cell_ranges.specs.Ranges.{replaced}
use Rattle.ep_cell_ranges.specs.Spots.{Spot, is_same_spot}
use Rattle.ep_cell_ranges.proofs.Basics.{same_spot}
use Rattle.ep_core.specs.Runs.{Side, left, right}
use Rattle.ep_equalities.specs.declared.pair.Mode.{Mode}
use Rattle.ep_equalities.specs.declared.pair.Mode.TheVariants.{Both, Left, Right}
use Rattle.ep_equalities.specs.Pairs.{runs_left, runs_right}
use Rattle.ep_transfers.specs.Places.{Places}
use Rattle.ep_transfers.specs.Copies.{Leaves, moved_alone, moved_both, copy_sides, copied}
use Rattle.ep_singles.specs.Cells.{IsOne}
use Rattle.ep_single_assigned.proofs.Kept.{IsBeside, IsOneAfter, then_beside}
use Rattle.ep_single_moves.specs.Laws.{IsCopiedAt}
use Rattle.ep_single_moves.proofs.Moves.{moves_keep_one}

-- ---- the same machines

module _ {N : Type 0} (D : Ops N) (agg : Bool) (q p : Spot) (n : ℕ) (k : Known N) where
  left_beside : (t : Bool) → IsBeside k (if t then k else replaced D (place_at cell_side.Left q n)
      (map (moved_to p q) (taken D k (place_at cell_side.Left p n))) k)
  left_beside true = record { orders = refl; model = refl }
  left_beside false = record { orders = refl; model = refl }

  right_beside : (t : Bool) → IsBeside k (if t then k else replaced D (place_at cell_side.Right q n)
      (map (moved_to p q) (taken D k (place_at cell_side.Right p n))) k)
  right_beside true = record { orders = refl; model = refl }
  right_beside false = record { orders = refl; model = refl }

  both_beside : (t : Bool) → IsBeside k (if t then k else replaced D (place_at cell_side.Shared q n)
      (map (moved_to p q) (taken_by_both D k p n)) k)
  both_beside true = record { orders = refl; model = refl }
  both_beside false = record { orders = refl; model = refl }

  alone_beside : (s : Side) → IsBeside k (moved_alone D s agg q p n k)
  alone_beside left = left_beside (agg && is_same_spot q p)
  alone_beside right = right_beside (agg && is_same_spot q p)

-- ---- one place a side

module _ {N : Type 0} (D : Ops N) (law : Lawful D) (ls : Leaves) (n : ℕ) (k : Known N) (m o : Memories)
    (one : IsOne D k m) where
  sides_one : (q r p v : Spot) → q.1 + n ≤ 2 ^ 32 → r.1 + n ≤ 2 ^ 32
      → IsCopiedAt k.model (is_some ls) q p n true m.left o.left
      → IsCopiedAt k.model (is_some ls) r v n true m.right o.right
      → IsOneAfter D k
      (copy_sides D ls (record { left = q ∷ []; right = r ∷ [] }) (record { left = p ∷ []; right = v ∷ [] }) n k) o
  sides_one q r p v u w h i =
      let between : Memories = record { left = o.left; right = m.right } in
      let j = moved_alone D left (is_some ls) q p n k in
      let first = alone_beside D (is_some ls) q p n k left in
      record {
        beside = then_beside k j (moved_alone D right (is_some ls) r v n j) first
            (alone_beside D (is_some ls) r v n j right);
        one = (moves_keep_one D law j between o
            ((moves_keep_one D law k m between one (is_some ls) q p n u).on_left h (still k.model q p m.right))
            (is_some ls) r v n w).on_right (still j.model r v o.left)
            (subst (λ d. IsCopiedAt d (is_some ls) r v n true m.right o.right) (sym first.model) i);
      }
    where
      still : (d : Model) (q p : Spot) (z : Memory) → IsCopiedAt d (is_some ls) q p n false z z
      still d q p z = record { copied = λ e. absurd (let x : false ≡ true = e in cc); stays = λ e b j. refl }

  both_one : (q p : Spot) → q.1 + n ≤ 2 ^ 32 → IsCopiedAt k.model (is_some ls) q p n true m.left o.left
      → IsCopiedAt k.model (is_some ls) q p n true m.right o.right
      → IsOneAfter D k (moved_both D (is_some ls) q p n k) o
  both_one q p u h i = record {
    beside = both_beside D (is_some ls) q p n k (is_some ls && is_same_spot q p);
    one = (moves_keep_one D law k m o one (is_some ls) q p n u).on_both h i;
  }

  joint_one : (joint : Bool) (q r p v : Spot) → q.1 + n ≤ 2 ^ 32 → r.1 + n ≤ 2 ^ 32
      → IsCopiedAt k.model (is_some ls) q p n true m.left o.left
      → IsCopiedAt k.model (is_some ls) r v n true m.right o.right → (joint ≡ true → (q ≡ r) × (p ≡ v))
      → IsOneAfter D k (copied D Both joint ls (record { left = q ∷ []; right = r ∷ [] })
      (record { left = p ∷ []; right = v ∷ [] }) n k) o
  joint_one true q r p v u w h i same =
      let s = same refl in
      subst (λ t. IsOneAfter D k (if t then moved_both D (is_some ls) q p n k else copy_sides D ls
      (record { left = q ∷ []; right = r ∷ [] }) (record { left = p ∷ []; right = v ∷ [] }) n k) o)
      (sym (and_from (is_same_spot q r) (is_same_spot p v) (same_spot q r s.0) (same_spot p v s.1)))
      (both_one q p u h
      (subst (λ x. IsCopiedAt k.model (is_some ls) x p n true m.right o.right) (sym s.0)
      (subst (λ x. IsCopiedAt k.model (is_some ls) r x n true m.right o.right) (sym s.1) i)))
  joint_one false q r p v u w h i same = sides_one q r p v u w h i

  pub copied_one : (mode : Mode) (joint : Bool) (q r p v : Spot) → (runs_left mode ≡ true → q.1 + n ≤ 2 ^ 32)
      → (runs_right mode ≡ true → r.1 + n ≤ 2 ^ 32)
      → IsCopiedAt k.model (is_some ls) q p n (runs_left mode) m.left o.left
      → IsCopiedAt k.model (is_some ls) r v n (runs_right mode) m.right o.right
      → (mode ≡ Both → joint ≡ true → (q ≡ r) × (p ≡ v))
      → IsOneAfter D k (copied D mode joint ls (record { left = q ∷ []; right = r ∷ [] })
      (record { left = p ∷ []; right = v ∷ [] }) n k) o
  copied_one Both joint q r p v u w h i same = joint_one joint q r p v (u refl) (w refl) h i (same refl)
  copied_one Left joint q r p v u w h i same = record {
    beside = alone_beside D (is_some ls) q p n k left;
    one = (moves_keep_one D law k m o one (is_some ls) q p n (u refl)).on_left h
        (record { copied = λ e. absurd (let x : false ≡ true = e in cc); stays = i.stays });
  }
  copied_one Right joint q r p v u w h i same = record {
    beside = alone_beside D (is_some ls) r v n k right;
    one = (moves_keep_one D law k m o one (is_some ls) r v n (w refl)).on_right
        (record { copied = λ e. absurd (let x : false ≡ true = e in cc); stays = h.stays }) i;
  }

-- ---- the places of each running side

module _ {N : Type 0} (D : Ops N) (P : Known N → Type 0) (joint : Bool) (ls : Leaves) (n : ℕ) (k : Known N) where
  pub copied_at : (mode : Mode) (to from : Places) (q r p v : Spot) → (runs_left mode ≡ true → to.left ≡ q ∷ [])
      → (runs_right mode ≡ true → to.right ≡ r ∷ []) → (runs_left mode ≡ true → from.left ≡ p ∷ [])
      → (runs_right mode ≡ true → from.right ≡ v ∷ [])
      → P (copied D mode joint ls (record { left = q ∷ []; right = r ∷ [] })
      (record { left = p ∷ []; right = v ∷ [] }) n k) → P (copied D mode joint ls to from n k)
  copied_at Both to from q r p v e f g i h =
      subst (λ z. P (copied D Both joint ls (record { left = to.left; right = z }) from n k)) (sym (f refl))
      (subst (λ z. P (copied D Both joint ls (record { left = z; right = r ∷ [] }) from n k)) (sym (e refl))
      (subst (λ z. P (copied D Both joint ls (record { left = q ∷ []; right = r ∷ [] })
      (record { left = from.left; right = z }) n k)) (sym (i refl))
      (subst (λ z. P (copied D Both joint ls (record { left = q ∷ []; right = r ∷ [] })
      (record { left = z; right = v ∷ [] }) n k)) (sym (g refl)) h)))
  copied_at Left to from q r p v e f g i h =
      subst (λ z. P (copied D Left joint ls (record { left = z; right = to.right }) from n k)) (sym (e refl))
      (subst (λ z. P (copied D Left joint ls (record { left = q ∷ []; right = to.right })
      (record { left = z; right = from.right }) n k)) (sym (g refl)) h)
  copied_at Right to from q r p v e f g i h =
      subst (λ z. P (copied D Right joint ls (record { left = to.left; right = z }) from n k)) (sym (f refl))
      (subst (λ z. P (copied D Right joint ls (record { left = to.left; right = r ∷ [] })
      (record { left = from.left; right = z }) n k)) (sym (i refl)) h)
