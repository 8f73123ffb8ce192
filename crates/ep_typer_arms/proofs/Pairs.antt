-- Two lists that are walked together, tested pair by pair.
use Rattle.std.proofs.Common.{◌≡◌, ℕ, suc, ◌+◌, ◌<◌, ◌≤◌, Bool, true, false, ◌&&◌, List, [], ◌∷◌, length, drop}
use Rattle.ep_int.proofs.Basics.{drop-here, and-false}
use Rattle.std.proofs.Common.{get_or, refl, sym, ap, ◌∙◌}
use Rattle.std.proofs.lemmas.List.{drop_all}

module _ {X : Type 0} (both : X → X → Bool) (all : List X → List X → Bool)
    (cons : (x y : X) (xs ys : List X) → all (x ∷ xs) (y ∷ ys) ≡ (both x y && all xs ys)) where
  -- at a pair
  module _ (i : ℕ) (xs ys : List X) (x y d : X) (r : Bool) (in_first : i < length xs) (in_second : i < length ys)
      (is : x ≡ get_or xs i x) (other : y ≡ get_or ys i d) (h : all (drop i xs) (drop i ys) ≡ r) where
    unrolled : (both x y && all (drop (i + 1) xs) (drop (i + 1) ys)) ≡ r
    unrolled =
        sym (ap (λ (us : List X). all us (drop i ys)) (drop-here i xs x x in_first is)
        ∙ ap (all (x ∷ drop (i + 1) xs)) (drop-here i ys y d in_second other)
        ∙ cons x y (drop (i + 1) xs) (drop (i + 1) ys))
        ∙ h

    pub alike : both x y ≡ true → all (drop (i + 1) xs) (drop (i + 1) ys) ≡ r
    alike q = sym (ap (λ (b : Bool). b && all (drop (i + 1) xs) (drop (i + 1) ys)) q) ∙ unrolled

    pub unlike : both x y ≡ false → false ≡ r
    unlike q = sym (ap (λ (b : Bool). b && all (drop (i + 1) xs) (drop (i + 1) ys)) q) ∙ unrolled

  pub all_alike : all [] [] ≡ true → (i : ℕ) (xs ys : List X) (r : Bool) → length xs ≤ i → length ys ≤ i
      → all (drop i xs) (drop i ys) ≡ r → true ≡ r
  all_alike none i xs ys r l m h =
      sym (ap (λ (us : List X). all us (drop i ys)) (drop_all i xs l) ∙ ap (all []) (drop_all i ys m) ∙ none) ∙ h

  pub of_other_length : ((y : X) (ys : List X) → all [] (y ∷ ys) ≡ false)
      → ((x : X) (xs : List X) → all (x ∷ xs) [] ≡ false) → (xs ys : List X) → (length xs ≡ length ys → ⊥) → false ≡ all xs ys
  of_other_length left right [] [] n = absurd (n refl)
  of_other_length left right [] (y ∷ ys) n = sym (left y ys)
  of_other_length left right (x ∷ xs) [] n = sym (right x xs)
  of_other_length left right (x ∷ xs) (y ∷ ys) n =
      let rest : false ≡ all xs ys = of_other_length left right xs ys (λ e. n (ap suc e)) in
      sym (cons x y xs ys ∙ ap (λ (b : Bool). both x y && b) (sym rest) ∙ and-false (both x y))
