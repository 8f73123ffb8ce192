-- Leaves in lists of leaves.
use Rattle.std.proofs.Common.{◌≡◌, ℕ, zero, suc, ◌+◌, ◌*◌, ◌<◌, ◌≤◌, Bool, true, false, ◌⊎◌, inl, inr, if◌then◌else◌}
use Rattle.ep_int.proofs.Basics.{some-injective}
use Rattle.std.proofs.Common.{nat_eq, List, [], ◌∷◌, ◌++◌, Some, refl, ap, subst, arith}
use Rattle.std.proofs.lemmas.Bool.{eqb-true, eqb-false}
use Rattle.std.proofs.Math.Nat.{mul-suc, mul-zero}
use Rattle.ep_int.specs.declared.types.Model.{Model}
use Rattle.ep_int.specs.declared.types.Scalar.{Scalar}
use Rattle.ep_int.specs.Types.{size_of}
use Rattle.ep_layout.specs.declared.types.Leaf.{Leaf}
use Rattle.ep_layout.specs.Layout.{AreLeavesFrom, shifted, repeated}
use Rattle.ep_layout.proofs.Sizes.{size_of_scalar}
use Rattle.ep_cells.specs.Kill.{leaf_at}

-- a leaf of this type at this offset is among them
abbrev pub HasLeaf : ℕ → Scalar → List Leaf → Type 0
HasLeaf q w [] = ⊥
HasLeaf q w (l ∷ ls) = ((l.offset ≡ q) × (l.what ≡ w)) ⊎ HasLeaf q w ls

pub has_leaf : (xs : List Leaf) (q : ℕ) (w : Scalar) → leaf_at xs q ≡ Some w → HasLeaf q w xs
has_leaf [] q w h = absurd cc
has_leaf (l ∷ ls) q w h = by_place (nat_eq l.offset q) refl h (has_leaf ls q w)
  where
    by_place : (b : Bool) → nat_eq l.offset q ≡ b → (if b then Some l.what else leaf_at ls q) ≡ Some w
        → (leaf_at ls q ≡ Some w → HasLeaf q w ls) → HasLeaf q w (l ∷ ls)
    by_place true e h later = inl (eqb-true l.offset q e, some-injective h)
    by_place false e h later = inr (later h)

-- leaves that begin at e or later
pub past : (m : Model) (e size : ℕ) (xs : List Leaf) → AreLeavesFrom m e size xs → (q : ℕ) (w : Scalar) → HasLeaf q w xs
    → e ≤ q
past m e size [] h q w i = absurd i
past m e size (l ∷ ls) h q w (inl i) = let a = i.0 in let b = h.0 in omega (arith, a, b)
past m e size (l ∷ ls) h q w (inr i) =
    let b = h.0 in let c = past m (l.offset + size_of m l.what) size ls h.2 q w i in omega (arith, b, c)

pub leaf_is_at : (m : Model) (e size : ℕ) (xs : List Leaf) → AreLeavesFrom m e size xs → (q : ℕ) (w : Scalar)
    → HasLeaf q w xs → leaf_at xs q ≡ Some w
leaf_is_at m e size [] h q w i = absurd i
leaf_is_at m e size (l ∷ ls) h q w i =
    by_place (nat_eq l.offset q) refl i (leaf_is_at m (l.offset + size_of m l.what) size ls h.2 q w)
  where
    by_place : (b : Bool) → nat_eq l.offset q ≡ b → ((l.offset ≡ q) × (l.what ≡ w)) ⊎ HasLeaf q w ls
        → (HasLeaf q w ls → leaf_at ls q ≡ Some w) → (if b then Some l.what else leaf_at ls q) ≡ Some w
    by_place true e (inl i) later = ap Some i.1
    by_place true e (inr i) later =
        let a = eqb-true l.offset q e in
        let b = past m (l.offset + size_of m l.what) size ls h.2 q w i in
        let c = (size_of_scalar m l.what).0 in
        absurd (omega (arith, a, b, c))
    by_place false e (inl i) later = absurd (eqb-false l.offset q e i.0)
    by_place false e (inr i) later = later i

pub has_left : (xs ys : List Leaf) (q : ℕ) (w : Scalar) → HasLeaf q w xs → HasLeaf q w (xs ++ ys)
has_left [] ys q w i = absurd i
has_left (l ∷ xs) ys q w (inl i) = inl i
has_left (l ∷ xs) ys q w (inr i) = inr (has_left xs ys q w i)

pub has_right : (xs ys : List Leaf) (q : ℕ) (w : Scalar) → HasLeaf q w ys → HasLeaf q w (xs ++ ys)
has_right [] ys q w i = i
has_right (l ∷ xs) ys q w i = inr (has_right xs ys q w i)

pub has_shifted : (k : ℕ) (xs : List Leaf) (q : ℕ) (w : Scalar) → HasLeaf q w xs → HasLeaf (k + q) w (shifted k xs)
has_shifted k [] q w i = absurd i
has_shifted k (l ∷ xs) q w (inl i) = inl (ap (λ x. k + x) i.0, i.1)
has_shifted k (l ∷ xs) q w (inr i) = inr (has_shifted k xs q w i)

next_one : (s i q : ℕ) → s + (s * i + q) ≡ s * suc i + q
next_one s i q = let e = mul-suc s i in omega (arith, e)

first_one : (s q : ℕ) → q ≡ s * zero + q
first_one s q = let e = mul-zero s in omega (arith, e)

pub has_repeated : (n s i : ℕ) (xs : List Leaf) → i < n → (q : ℕ) (w : Scalar) → HasLeaf q w xs
    → HasLeaf (s * i + q) w (repeated n s xs)
has_repeated zero s i xs l q w h = absurd (omega (arith, l))
has_repeated (suc n) s zero xs l q w h =
    has_left xs (shifted s (repeated n s xs)) (s * zero + q) w (subst (λ x. HasLeaf x w xs) (first_one s q) h)
has_repeated (suc n) s (suc i) xs l q w h =
    has_right xs (shifted s (repeated n s xs)) (s * suc i + q) w
    (subst (λ x. HasLeaf x w (shifted s (repeated n s xs))) (next_one s i q)
    (has_shifted s (repeated n s xs) (s * i + q) w (has_repeated n s i xs (omega (arith, l)) q w h)))
