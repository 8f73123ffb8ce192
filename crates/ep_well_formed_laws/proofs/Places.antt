-- Places in lists.
use Rattle.std.proofs.Common.{◌≡◌, ℕ, zero, suc, ◌+◌, ◌<◌, nat_lt, Bool, true, false, true≢false, cond, not, List, []}
use Rattle.std.proofs.lemmas.Option.{slice_get_within}
use Rattle.std.proofs.Common.{◌∷◌, ◌++◌, length, position, slice_get, Option, Some, None, option_map, refl, sym, ap}
use Rattle.std.proofs.Common.{◌∙◌, subst, arith}
use Rattle.std.specs.List.{position_or_len}
use Rattle.std.proofs.lemmas.Bool.Decides.{nat_tests}

module _ {X : Type 0} (p : X → Bool) where
  abbrev found : ℕ → ℕ → Option ℕ
  found k n = cond (nat_lt k n) (Some k) None

  lt_suc : (a b : ℕ) → nat_lt (suc a) (suc b) ≡ nat_lt a b
  lt_suc a b = at_test (nat_lt a b) refl
    where
      at_test : (c : Bool) → nat_lt a b ≡ c → nat_lt (suc a) (suc b) ≡ c
      at_test true q = grind (arith, nat_tests)
      at_test false q = grind (arith, nat_tests)

  found_suc : (k n : ℕ) → found (suc k) (suc n) ≡ option_map suc (found k n)
  found_suc k n = ap (λ (b : Bool). cond b (Some (suc k)) None) (lt_suc k n) ∙ step (nat_lt k n)
    where
      step : (b : Bool) → cond b (Some (suc k)) None ≡ option_map suc (cond b (Some k) None)
      step true = refl
      step false = refl

  found_zero : (n : ℕ) → found 0 (suc n) ≡ Some 0
  found_zero n = let e : nat_lt 0 (suc n) ≡ true = grind (arith, nat_tests) in rw e refl

  or_len : (x : X) (xs : List X) (b : Bool) → p x ≡ b
      → position_or_len p (x ∷ xs) ≡ cond b 0 (suc (position_or_len p xs))
  or_len x xs true q = ap (λ (b : Bool). cond (not b) (1 + position_or_len p xs) 0) q
  or_len x xs false q = ap (λ (b : Bool). cond (not b) (1 + position_or_len p xs) 0) q ∙ omega arith

  -- the first place of an element that passes, step by step
  pub place_cons : (x : X) (xs : List X) → position p (x ∷ xs) ≡ cond (p x) (Some 0) (option_map suc (position p xs))
  place_cons x xs = by (p x) refl
    where
      by : (b : Bool) → p x ≡ b → position p (x ∷ xs) ≡ cond (p x) (Some 0) (option_map suc (position p xs))
      by true q = ap (λ (k : ℕ). found k (length (x ∷ xs))) (or_len x xs true q) ∙ found_zero (length xs)
          ∙ sym (ap (λ (b : Bool). cond b (Some 0) (option_map suc (position p xs))) q)
      by false q = ap (λ (k : ℕ). found k (length (x ∷ xs))) (or_len x xs false q)
          ∙ found_suc (position_or_len p xs) (length xs)
          ∙ sym (ap (λ (b : Bool). cond b (Some 0) (option_map suc (position p xs))) q)

  pub place_first : (x : X) (xs : List X) → p x ≡ true → position p (x ∷ xs) ≡ Some 0
  place_first x xs q = place_cons x xs ∙ ap (λ (b : Bool). cond b (Some 0) (option_map suc (position p xs))) q

  pub place_later : (x : X) (xs : List X) → p x ≡ false → position p (x ∷ xs) ≡ option_map suc (position p xs)
  place_later x xs q = place_cons x xs ∙ ap (λ (b : Bool). cond b (Some 0) (option_map suc (position p xs))) q

  pub suc_some : (o : Option ℕ) (i : ℕ) → option_map suc o ≡ Some i → (j : ℕ) × (o ≡ Some j) × (suc j ≡ i)
  suc_some None i e = absurd cc
  suc_some (Some j) i e = (j, refl, cc)

  -- what stands at the place, and nothing before it passes
  pub place_is : (xs : List X) (i : ℕ) → position p xs ≡ Some i → (x : X) × (slice_get xs i ≡ Some x) × (p x ≡ true)
  place_is [] i e = absurd cc
  place_is (x ∷ xs) i e = by (p x) refl (place_is xs)
    where
      by : (b : Bool) → p x ≡ b → ((j : ℕ) → position p xs ≡ Some j
          → (y : X) × (slice_get xs j ≡ Some y) × (p y ≡ true))
          → (y : X) × (slice_get (x ∷ xs) i ≡ Some y) × (p y ≡ true)
      by true q f =
          let z : 0 ≡ i = (let r = sym (place_first x xs q) ∙ e in cc) in
          subst (λ (j : ℕ). (y : X) × (slice_get (x ∷ xs) j ≡ Some y) × (p y ≡ true)) z (x, refl, q)
      by false q f =
          let s = suc_some (position p xs) i (sym (place_later x xs q) ∙ e) in
          subst (λ (j : ℕ). (y : X) × (slice_get (x ∷ xs) j ≡ Some y) × (p y ≡ true)) s.2 (f s.0 s.1)

  pub place_front : (xs ys : List X) (i : ℕ) → position p xs ≡ Some i → position p (xs ++ ys) ≡ Some i
  place_front [] ys i e = absurd cc
  place_front (x ∷ xs) ys i e = by (p x) refl (place_front xs ys)
    where
      by : (b : Bool) → p x ≡ b → ((j : ℕ) → position p xs ≡ Some j → position p (xs ++ ys) ≡ Some j)
          → position p (x ∷ (xs ++ ys)) ≡ Some i
      by true q f = place_first x (xs ++ ys) q ∙ sym (place_first x xs q) ∙ e
      by false q f =
          let s = suc_some (position p xs) i (sym (place_later x xs q) ∙ e) in
          place_later x (xs ++ ys) q ∙ ap (option_map suc) (f s.0 s.1) ∙ ap (λ (j : ℕ). Some j) s.2

  -- one that passes is found
  pub place_some : (xs : List X) (i : ℕ) (x : X) → slice_get xs i ≡ Some x → p x ≡ true
      → (j : ℕ) × (position p xs ≡ Some j)
  place_some [] i x e q = absurd cc
  place_some (y ∷ xs) i x e q = by (p y) refl i e (place_some xs)
    where
      by : (b : Bool) → p y ≡ b → (i : ℕ) → slice_get (y ∷ xs) i ≡ Some x
          → ((i : ℕ) (x : X) → slice_get xs i ≡ Some x → p x ≡ true → (j : ℕ) × (position p xs ≡ Some j))
          → (j : ℕ) × (position p (y ∷ xs) ≡ Some j)
      by true r i k f = (0, place_first y xs r)
      by false r zero k f = let same : y ≡ x = cc in absurd (true≢false (sym q ∙ ap p (sym same) ∙ r))
      by false r (suc i) k f = let s = f i x k q in (suc s.0, place_later y xs r ∙ ap (option_map suc) s.1)
