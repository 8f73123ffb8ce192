-- Cells of leaves and of bytes outside of them overlap only where they are the same.
use Rattle.std.proofs.Common.{◌≡◌, ℕ, ◌+◌, ◌-◌, ◌<◌, ◌≤◌, Bool, true, false, ◌&&◌, ◌⊎◌, inl, inr, List, [], ◌∷◌}
use Rattle.ep_tame_cells.proofs.Exact.{differ}
use Rattle.std.proofs.Common.{Option, Some, None, refl, sym, ap, ◌∙◌, arith, eq-zero-or-pos, nat_le, nat_lt}
use Rattle.std.specs.Prelude.{unwrap_or}
use Rattle.std.proofs.lemmas.Bool.{and_from, or_left, or_right, le-leb, lt-ltb}
use Rattle.ep_int.specs.declared.types.IntType.TheVariants.{U8}
use Rattle.ep_int.specs.declared.types.Model.{Model}
use Rattle.ep_int.specs.declared.types.Scalar.{Scalar}
use Rattle.ep_int.specs.declared.types.Scalar.TheVariants.{Int}
use Rattle.ep_int.specs.Types.{size_of}
use Rattle.ep_layout.specs.declared.types.Leaf.{Leaf}
use Rattle.ep_layout.specs.Layout.{AreLeavesFrom}
use Rattle.ep_layout.specs.Table.{Table, leaves, size}
use Rattle.ep_layout.proofs.Ordered.{leaves_ordered}
use Rattle.ep_cells.specs.Kill.{leaf_at, is_in_leaf}
use Rattle.ep_tame_laws.proofs.LeavesIn.{HasLeaf, has_leaf, past}
use Rattle.ep_tame_cells.specs.Shape.{cell_type, or_outside, outside_leaves}

-- what comes later begins behind the end
later_leaf : (m : Model) (e n : ℕ) (xs : List Leaf) → AreLeavesFrom m e n xs → (q r : ℕ) (w v : Scalar)
    → HasLeaf q w xs → HasLeaf r v xs → q < r → q + size_of m w ≤ r
later_leaf m e n [] h q r w v i j l = absurd i
later_leaf m e n (f ∷ fs) h q r w v (inl i) (inl j) l =
    let a = i.0 in let b = j.0 in absurd (omega (arith, a, b, l))
later_leaf m e n (f ∷ fs) h q r w v (inl i) (inr j) l =
    let a = i.0 in
    let b = ap (size_of m) i.1 in
    let c = past m (f.offset + size_of m f.what) n fs h.2 r v j in
    omega (arith, a, b, c)
later_leaf m e n (f ∷ fs) h q r w v (inr i) (inl j) l =
    let a = past m (f.offset + size_of m f.what) n fs h.2 q w i in let b = j.0 in absurd (omega (arith, a, b, l))
later_leaf m e n (f ∷ fs) h q r w v (inr i) (inr j) l =
    later_leaf m (f.offset + size_of m f.what) n fs h.2 q r w v i j l

-- an offset in a leaf
in_leaf : (m : Model) (xs : List Leaf) (q r : ℕ) (w : Scalar) → HasLeaf q w xs → q ≤ r → r < q + size_of m w
    → is_in_leaf m xs r ≡ true
in_leaf m [] q r w i low high = absurd i
in_leaf m (f ∷ fs) q r w (inl i) low high =
    let a = i.0 in
    let b = ap (size_of m) i.1 in
    or_left (nat_le f.offset r && nat_lt r (f.offset + size_of m f.what)) _
    (and_from (nat_le f.offset r) (nat_lt r (f.offset + size_of m f.what)) (le-leb f.offset r (omega (arith, a, low)))
    (lt-ltb r (f.offset + size_of m f.what) (omega (arith, a, b, high))))
in_leaf m (f ∷ fs) q r w (inr i) low high = or_right _ (is_in_leaf m fs r) (in_leaf m fs q r w i low high)

module _ (t : Table) (ty : ℕ) where
  -- a cell of a leaf, or one outside of all leaves
  abbrev IsLeafOrByte : ℕ → Scalar → Type 0
  IsLeafOrByte q w = HasLeaf q w (leaves t ty) ⊎ ((w ≡ Int U8) × (is_in_leaf t.model (leaves t ty) q ≡ false))

  leaf_or_byte : (q : ℕ) (w : Scalar) → cell_type t ty q ≡ Some w → IsLeafOrByte q w
  leaf_or_byte q w h = by_leaf (leaf_at (leaves t ty) q) refl
    where
      some_is : {x y : Scalar} → Some x ≡ Some y → x ≡ y
      some_is e = cc

      by_inside : leaf_at (leaves t ty) q ≡ None → (b : Bool) → is_in_leaf t.model (leaves t ty) q ≡ b
          → IsLeafOrByte q w
      by_inside none true e =
          let k : None ≡ Some w =
          sym (ap (λ o. or_outside o (is_in_leaf t.model (leaves t ty) q)) none ∙ ap outside_leaves e) ∙ h in
          absurd cc
      by_inside none false e =
          let k : Some (Int U8) ≡ Some w =
          sym (ap (λ o. or_outside o (is_in_leaf t.model (leaves t ty) q)) none ∙ ap outside_leaves e) ∙ h in
          inr (sym (some_is k), e)

      by_leaf : (o : Option Scalar) → leaf_at (leaves t ty) q ≡ o → IsLeafOrByte q w
      by_leaf None e = by_inside e (is_in_leaf t.model (leaves t ty) q) refl
      by_leaf (Some v) e =
          let k : Some v ≡ Some w = sym (ap (λ o. or_outside o (is_in_leaf t.model (leaves t ty) q)) e) ∙ h in
          inl (has_leaf (leaves t ty) q w (e ∙ k))

  -- one that begins before another ends before it
  ends_before : (q r : ℕ) (w v : Scalar) → IsLeafOrByte q w → IsLeafOrByte r v → q < r → q + size_of t.model w ≤ r
  ends_before q r w v (inl i) (inl j) l =
      later_leaf t.model 0 (unwrap_or (size t ty) 0) (leaves t ty) (leaves_ordered t ty) q r w v i j l
  ends_before q r w v (inl i) (inr j) l = elim (eq-zero-or-pos (q + size_of t.model w - r)) [
    | inl e ↦ omega (arith, e)
    | inr p ↦ differ (sym (in_leaf t.model (leaves t ty) q r w i (omega (arith, l)) (omega (arith, p))) ∙ j.1)
  ]
  ends_before q r w v (inr i) j l = let e = ap (size_of t.model) i.0 in omega (arith, e, l)

  -- so cells that overlap begin at one offset
  pub one_offset : (q r : ℕ) (w v : Scalar) → cell_type t ty q ≡ Some w → cell_type t ty r ≡ Some v
      → q < r + size_of t.model v → r < q + size_of t.model w → q ≡ r
  one_offset q r w v a b low high =
      let i = leaf_or_byte q w a in
      let j = leaf_or_byte r v b in
      by_order (eq-zero-or-pos (r - q)) (eq-zero-or-pos (q - r)) (ends_before q r w v i j) (ends_before r q v w j i)
    where
      by_order : ((r - q ≡ 0) ⊎ (0 < r - q)) → ((q - r ≡ 0) ⊎ (0 < q - r)) → (q < r → q + size_of t.model w ≤ r)
          → (r < q → r + size_of t.model v ≤ q) → q ≡ r
      by_order (inr p) z f g = let e = f (omega (arith, p)) in absurd (omega (arith, e, high))
      by_order (inl x) (inr p) f g = let e = g (omega (arith, p)) in absurd (omega (arith, e, low))
      by_order (inl x) (inl y) f g = omega (arith, x, y)
