-- A pointer that goes as a whole lies partly in no other piece.
use Rattle.std.proofs.Common.{◌≡◌, ℕ, zero, suc, ◌+◌, ◌<◌, ◌≤◌, Bool, true, false, ◌&&◌, not, nat_le, nat_lt, List}
use Rattle.std.proofs.Common.{◌++◌, Option, Some, None, ◌⊎◌, inl, inr, ⊎_elim, refl, sym, ap, ◌∙◌, arith}
use Rattle.std.specs.Option.{option_map_or}
use Rattle.std.proofs.lemmas.Bool.{and_from, and_parts, le-leb, ltb-true, false_from_ne_true, cases_lt}
use Rattle.ep_int.specs.declared.types.IntType.TheVariants.{U8}
use Rattle.ep_int.specs.declared.types.Model.{Model}
use Rattle.ep_int.specs.declared.types.Scalar.{Scalar}
use Rattle.ep_int.specs.declared.types.Scalar.TheVariants.{Int, Pointer}
use Rattle.ep_int.specs.Types.{pointer_bytes, size_of}
use Rattle.ep_int.specs.Memory.{Byte, fragment, lies_partly}
use Rattle.ep_layout.specs.declared.types.Leaf.{Leaf}
use Rattle.ep_domain.specs.Domain.{Ops}
use Rattle.ep_cells.specs.Kill.{leaf_at, AreLeavesIn}
use Rattle.ep_cells.specs.States.{Known}
use Rattle.ep_core.specs.Runs.{Side}
use Rattle.ep_evaluation.specs.Given.{cells_of}
use Rattle.ep_transfers.specs.Places.{Places, at_side}
use Rattle.ep_transfers.specs.Copies.{Piece, none, leaf, byte, piece_by, are_exact, scalar_of_piece}
use Rattle.ep_transfers.specs.Laws.{CellLaws}
use Rattle.ep_transfers.proofs.Patches.{Patch, AllMiss}
use Rattle.ep_transfers.proofs.PieceWrites.{piece_of, patch_of, patches_from}
use Rattle.ep_transfers.proofs.PiecePlaces.{in_whole, piece, none_within}

-- a place is that of the pointer, or apart from it
abbrev pub IsBeside : (place size start width : ℕ) → Type 0
IsBeside q z i p = ((q ≡ i) × (z ≡ p)) ⊎ ((q + z ≤ i) ⊎ (i + p ≤ q))

low_at : (h q i t : ℕ) → q ≡ i → h + q + t ≤ h + (i + t)
low_at h q i t e = omega (arith, e)

high_at : (h q i t z p : ℕ) → q ≡ i → z ≡ p → h + (i + t) + p ≤ h + q + z + t
high_at h q i t z p e f = omega (arith, e, f)

before_it : (h q i t z : ℕ) → q + z ≤ i → h + (i + t) < h + q + z + t → ⊥
before_it h q i t z e f = omega (arith, e, f)

behind_it : (h q i t p : ℕ) → i + p ≤ q → h + q + t < h + (i + t) + p → ⊥
behind_it h q i t p e f = omega (arith, e, f)

not_both : (t : Bool) → t ≡ true → not t ≡ true → ⊥
not_both true e f = let z : false ≡ true = f in cc
not_both false e f = cc

pub missed : (d : Model) (h q z b o i t : ℕ) → IsBeside q z i (pointer_bytes d)
    → lies_partly d (h + q) z (fragment b o t) (h + (i + t)) ≡ false
missed d h q z b o i t beside =
    let p = pointer_bytes d in
    let own = nat_le (h + q + t) (h + (i + t)) && nat_le (h + (i + t) + p) (h + q + z + t) in
    let near = nat_lt (h + (i + t)) (h + q + z + t) && nat_lt (h + q + t) (h + (i + t) + p) in
    false_from_ne_true (lies_partly d (h + q) z (fragment b o t) (h + (i + t)))
    (λ e.
    let x = and_parts near (not own) e in
    let y = and_parts (nat_lt (h + (i + t)) (h + q + z + t)) (nat_lt (h + q + t) (h + (i + t) + p)) x.0 in
    ⊎_elim
    (λ (s : (q ≡ i) × (z ≡ p)). not_both own
    (and_from (nat_le (h + q + t) (h + (i + t))) (nat_le (h + (i + t) + p) (h + q + z + t))
    (le-leb (h + q + t) (h + (i + t)) (low_at h q i t s.0))
    (le-leb (h + (i + t) + p) (h + q + z + t) (high_at h q i t z p s.0 s.1))) x.1)
    (λ s. ⊎_elim (λ a. before_it h q i t z a (ltb-true (h + (i + t)) (h + q + z + t) y.0))
    (λ a. behind_it h q i t p a (ltb-true (h + q + t) (h + (i + t) + p) y.1)) s) beside)

module _ {N : Type 0} (D : Ops N) where
  pub record IsLeaf (t : Bool) (o : Option Scalar) (w : Scalar) : Type 0 where
    pub whole : t ≡ true
    pub there : o ≡ Some w

  same_leaf : (v w : Scalar) → ◌≡◌ {A = Piece D} (leaf v) (leaf w) → v ≡ w
  same_leaf v w e = ap (scalar_of_piece D) e

  pub leaf_is : (t u : Bool) (o : Option Scalar) (w : Scalar) → ◌≡◌ {A = Piece D} (piece_by D t u o) (leaf w)
      → IsLeaf t o w
  leaf_is true u None w e = absurd (let z : ◌≡◌ {A = Piece D} none (leaf w) = e in cc)
  leaf_is true u (Some v) w e = record { whole = refl; there = ap Some (same_leaf v w e) }
  leaf_is false true o w e = absurd (let z : ◌≡◌ {A = Piece D} none (leaf w) = e in cc)
  leaf_is false false o w e = absurd (let z : ◌≡◌ {A = Piece D} byte (leaf w) = e in cc)

  module _ (d : Model) (f : ℕ → Scalar → Bool) (ls : List Leaf) (n : ℕ) (apart : AreLeavesIn d 0 n ls) where
    -- behind a leaf that goes as a whole come no pieces before its end
    pub ends_before : (o j : ℕ) (w : Scalar) (c : Piece D) → piece D d f ls n apart o ≡ leaf w
        → piece D d f ls n apart j ≡ c
        → (c ≡ none → ⊥) → o < j → o + size_of d w ≤ j
    ends_before o j w c e g some lo =
        ⊎_elim
        (λ hi.
        let l = leaf_is (option_map_or (λ w. f o w) (leaf_at ls o) false) (in_whole d f o ls) (leaf_at ls o) w e in
        let h : f o w ≡ true
        = sym (ap (λ (z : Option Scalar). option_map_or (λ w. f o w) z false) l.there) ∙ l.whole in
        absurd (some (sym g ∙ none_within D d f ls n apart o j w l.there h lo hi)))
        (λ far. far) (cases_lt j (o + size_of d w))

    one_more : (q i : ℕ) → q < i → q + 1 ≤ i
    one_more q i h = omega (arith, h)

    by_order : (q i : ℕ) → (i < q → ⊥) → (q < i → ⊥) → q ≡ i
    by_order q i a b = omega (arith, a, b)

    pub beside : (q i : ℕ) (c : Piece D) → piece D d f ls n apart q ≡ c → (c ≡ none → ⊥)
        → piece D d f ls n apart i ≡ leaf Pointer → IsBeside q (size_of d (scalar_of_piece D c)) i (pointer_bytes d)
    beside q i c e some g =
        ⊎_elim (λ lo. inr (inl (before c e some lo)))
        (λ hi. ⊎_elim (λ lo. inr (inr (ends_before i q Pointer c g e some lo)))
        (λ lo. inl (same_place lo hi)) (cases_lt i q)) (cases_lt q i)
      where
        before : (c : Piece D) → piece D d f ls n apart q ≡ c → (c ≡ none → ⊥) → q < i
            → q + size_of d (scalar_of_piece D c) ≤ i
        before none e some lo = absurd (some refl)
        before (leaf w) e some lo =
            ends_before q i w (leaf Pointer) e g (λ z. let y : ◌≡◌ {A = Piece D} (leaf Pointer) none = z in cc) lo
        before byte e some lo = one_more q i lo

        same_place : q ≤ i → i ≤ q → (q ≡ i) × (size_of d (scalar_of_piece D c) ≡ pointer_bytes d)
        same_place a b =
            let same : q ≡ i = omega (arith, a, b) in
            let is : c ≡ leaf Pointer = sym e ∙ (ap (λ z. piece D d f ls n apart z) same ∙ g) in
            (same, ap (λ z. size_of d (scalar_of_piece D z)) is)

module _ {N : Type 0} (D : Ops N) (laws : CellLaws D) (k : Known N) (to from : Places) (leaves : List Leaf) (n : ℕ)
    (s : Side) (g : ℕ → Byte) (apart : AreLeavesIn k.model 0 n leaves) (h i t b o : ℕ)
    (whole : piece_of D laws k to from leaves n s i ≡ leaf Pointer) where
  first_missed : (c : Piece D) (q : ℕ) (ys : List Patch) → piece_of D laws k to from leaves n s q ≡ c
      → AllMiss k.model h ys (h + (i + t)) (fragment b o t)
      → AllMiss k.model h (patch_of D laws k to from leaves n g q c ++ ys) (h + (i + t)) (fragment b o t)
  first_missed none q ys e m = m
  first_missed (leaf w) q ys e m = (
    missed k.model h q (size_of k.model w) b o i t
        (beside D k.model (λ o w. are_exact D k (cells_of s) o w (at_side from s)) leaves n apart q i (leaf w) e
        (λ z. let y : ◌≡◌ {A = Piece D} (leaf w) none = z in cc) whole),
    m,
  )
  first_missed byte q ys e m = (
    missed k.model h q (size_of k.model (Int U8)) b o i t
        (beside D k.model (λ o w. are_exact D k (cells_of s) o w (at_side from s)) leaves n apart q i byte e
        (λ z. let y : ◌≡◌ {A = Piece D} byte none = z in cc) whole),
    m,
  )

  pub all_missed : (q c : ℕ)
      → AllMiss k.model h (patches_from D laws k to from leaves n s g q c) (h + (i + t)) (fragment b o t)
  all_missed q zero = tt
  all_missed q (suc c) =
      first_missed (piece_of D laws k to from leaves n s q) q (patches_from D laws k to from leaves n s g
      (q + 1) c) refl
      (all_missed (q + 1) c)
