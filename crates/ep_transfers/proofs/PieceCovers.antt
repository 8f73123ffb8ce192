-- The patches of the pieces of an aggregate cover it.
use Rattle.std.proofs.Common.{◌≡◌, ℕ, zero, suc, ◌+◌, ◌<◌, ◌≤◌, Bool, true, false, nat_eq, List, ◌++◌, inl, inr, refl}
use Rattle.std.proofs.Common.{sym, ap, ◌∙◌, subst, arith}
use Rattle.std.proofs.lemmas.Bool.{eqb-true, eqb-false}
use Rattle.ep_int.specs.Types.{size_of}
use Rattle.ep_int.specs.Memory.{Byte}
use Rattle.ep_layout.specs.declared.types.Leaf.{Leaf}
use Rattle.ep_domain.specs.Domain.{Ops}
use Rattle.ep_cells.specs.Kill.{AreLeavesIn}
use Rattle.ep_cells.specs.States.{Known}
use Rattle.ep_core.specs.Runs.{Side}
use Rattle.ep_evaluation.specs.Given.{cells_of}
use Rattle.ep_transfers.specs.Places.{Places, at_side}
use Rattle.ep_transfers.specs.Copies.{Piece, none, leaf, byte, are_exact, scalar_of_piece}
use Rattle.ep_transfers.specs.Laws.{CellLaws}
use Rattle.ep_transfers.proofs.Patches.{Patch, Covers}
use Rattle.ep_transfers.proofs.PieceWrites.{piece_of, patch_of, patches_from}
use Rattle.ep_transfers.proofs.PiecePlaces.{over}

module _ {N : Type 0} (D : Ops N) (laws : CellLaws D) (k : Known N) (to from : Places) (leaves : List Leaf) (n : ℕ)
    (s : Side) (g : ℕ → Byte) where
  abbrev ones : ℕ → Piece D → List Patch
  ones o c = patch_of D laws k to from leaves n g o c

  covers_first : (c : Piece D) (o j : ℕ) (ys : List Patch) → (c ≡ none → ⊥) → o ≤ j
      → j < o + size_of k.model (scalar_of_piece D c) → Covers j (ones o c ++ ys)
  covers_first none o j ys some lo hi = absurd (some refl)
  covers_first (leaf w) o j ys some lo hi = inl (lo, hi)
  covers_first byte o j ys some lo hi = inl (lo, hi)

  covers_later : (c : Piece D) (o j : ℕ) (ys : List Patch) → Covers j ys → Covers j (ones o c ++ ys)
  covers_later none o j ys h = h
  covers_later (leaf w) o j ys h = inr h
  covers_later byte o j ys h = inr h

  nowhere : (o i : ℕ) → o ≤ i → i < o + zero → ⊥
  nowhere o i h l = omega (arith, h, l)

  next_low : (o i : ℕ) → o ≤ i → (o ≡ i → ⊥) → o + 1 ≤ i
  next_low o i h e = omega (arith, h, e)

  next_high : (o c i : ℕ) → i < o + suc c → i < o + 1 + c
  next_high o c i h = omega (arith, h)

  covers_from : (o c j i : ℕ) (what : Piece D) → piece_of D laws k to from leaves n s i ≡ what → (what ≡ none → ⊥)
      → i ≤ j → j < i + size_of k.model (scalar_of_piece D what) → o ≤ i → i < o + c
      → Covers j (patches_from D laws k to from leaves n s g o c)
  covers_from o zero j i what e some lo hi a b = absurd (nowhere o i a b)
  covers_from o (suc c) j i what e some lo hi a b =
      by_place (nat_eq o i) refl (λ far. covers_from (o + 1) c j i what e some lo hi (next_low o i a far)
      (next_high o c i b))
    where
      by_place : (t : Bool) → nat_eq o i ≡ t
          → ((o ≡ i → ⊥) → Covers j (patches_from D laws k to from leaves n s g (o + 1) c))
          → Covers j (ones o (piece_of D laws k to from leaves n s o)
          ++ patches_from D laws k to from leaves n s g (o + 1) c)
      by_place true f later =
          let same : i ≡ o = sym (eqb-true o i f) in
          let is : what ≡ piece_of D laws k to from leaves n s o
          = sym e ∙ ap (λ z. piece_of D laws k to from leaves n s z) same in
          covers_first (piece_of D laws k to from leaves n s o) o j
          (patches_from D laws k to from leaves n s g (o + 1) c) (subst (λ z. z ≡ none → ⊥) is some)
          (subst (λ z. z ≤ j) same lo)
          (subst (λ z. j < z + size_of k.model (scalar_of_piece D (piece_of D laws k to from leaves n s o))) same
          (subst (λ z. j < i + size_of k.model (scalar_of_piece D z)) is hi))
      by_place false f later =
          covers_later (piece_of D laws k to from leaves n s o) o j
          (patches_from D laws k to from leaves n s g (o + 1) c) (later (eqb-false o i f))

  all_below : (i j : ℕ) → i ≤ j → j < n → i < 0 + n
  all_below i j h l = omega (arith, h, l)

  from_zero : (i : ℕ) → 0 ≤ i
  from_zero i = omega arith

  pub all_covered : AreLeavesIn k.model 0 n leaves → (j : ℕ) → j < n
      → Covers j (patches_from D laws k to from leaves n s g 0 n)
  all_covered apart j l =
      let r = over D k.model (λ o w. are_exact D k (cells_of s) o w (at_side from s)) leaves n apart j in
      covers_from 0 n j r.start r.what r.is r.some r.low r.high (from_zero r.start) (all_below r.start j r.low l)
