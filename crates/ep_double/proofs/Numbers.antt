-- Tests of the numbers below some number, one after another.
use Rattle.std.proofs.Common.{◌≡◌, ℕ, zero, suc, ◌+◌, ◌<◌, ◌≤◌, Bool, true, false, ◌&&◌, ◌||◌, ◌⊎◌, inl, inr, List}
use Rattle.std.proofs.Common.{[], ◌∷◌, ◌++◌, length, slice_get, Option, Some, None, refl, sym, ap, ◌∙◌, subst, arith}
use Rattle.std.proofs.Common.{eq-zero-or-pos, ◌-◌}
use Rattle.std.specs.List.{list_all, list_any}
use Rattle.std.specs.Prelude.{not, option_map, unwrap_or}
use Rattle.std.proofs.lemmas.Option.{slice_get_past}
use Rattle.ep_layout.specs.Table.{Table, AggregateRow, is_union}
use Rattle.ep_core.specs.WellFormed.{numbers_below}
use Rattle.ep_double.specs.Holders.{has_no_union}

abbrev is_union_row : Option AggregateRow → Bool
is_union_row o = unwrap_or (option_map (λ (g : AggregateRow). g.is_union) o) false

module _ {X : Type 0} (test : X → Bool) where
  and_right : (a b : Bool) → b ≡ false → (a && b) ≡ false
  and_right true b h = h
  and_right false b h = refl

  and_left : (a b : Bool) → a ≡ false → (a && b) ≡ false
  and_left a b h = rw h refl

  pub all_push : (xs : List X) (x : X) → list_all test (xs ++ x ∷ []) ≡ (list_all test xs && test x)
  all_push [] x = and_true (test x)
    where
      and_true : (b : Bool) → (b && true) ≡ b
      and_true true = refl
      and_true false = refl
  all_push (y ∷ xs) x = ap (λ b. test y && b) (all_push xs x) ∙ grouped (test y) (list_all test xs) (test x)
    where
      grouped : (a b c : Bool) → (a && (b && c)) ≡ ((a && b) && c)
      grouped true b c = refl
      grouped false b c = refl

  any_push : (xs : List X) (x : X) → list_any test (xs ++ x ∷ []) ≡ (list_any test xs || test x)
  any_push [] x = or_false (test x)
    where
      or_false : (b : Bool) → (b || false) ≡ b
      or_false true = refl
      or_false false = refl
  any_push (y ∷ xs) x = ap (λ b. test y || b) (any_push xs x) ∙ grouped (test y) (list_any test xs) (test x)
    where
      grouped : (a b c : Bool) → (a || (b || c)) ≡ ((a || b) || c)
      grouped true b c = refl
      grouped false b c = refl

  -- a list whose item at a place fails
  pub fails_at : (xs : List X) (i : ℕ) (x : X) → slice_get xs i ≡ Some x → test x ≡ false → list_all test xs ≡ false
  fails_at [] i x h q = absurd cc
  fails_at (y ∷ xs) zero x h q = let e : y ≡ x = cc in and_left (test y) (list_all test xs) (ap test e ∙ q)
  fails_at (y ∷ xs) (suc i) x h q = and_right (test y) (list_all test xs) (fails_at xs i x h q)

pub last_or_below : (k n : ℕ) → k < suc n → (k ≡ n) ⊎ (k < n)
last_or_below k n h = elim (eq-zero-or-pos (n - k)) [
  | inl past ↦ inl (omega (arith, past, h))
  | inr below ↦ inr (omega (arith, below))
]

module _ (test : ℕ → Bool) where
  pub all_next : (k : ℕ) → list_all test (numbers_below k) ≡ true → test k ≡ true
      → list_all test (numbers_below (k + 1)) ≡ true
  all_next k h q =
      let one : suc k ≡ k + 1 = omega arith in
      subst (λ n. list_all test (numbers_below n) ≡ true) one (all_push test (numbers_below k) k ∙ rw (h, q) refl)

  pub all_fails : (n k : ℕ) → test k ≡ false → k < n → list_all test (numbers_below n) ≡ false
  all_fails zero k q l = absurd (omega (arith, l))
  all_fails (suc n) k q l = all_push test (numbers_below n) n ∙ by_place (last_or_below k n l) (all_fails n k q)
    where
      fails : (a b : Bool) → (a ≡ false) ⊎ (b ≡ false) → (a && b) ≡ false
      fails a b (inl h) = rw h refl
      fails true b (inr h) = h
      fails false b (inr h) = refl

      by_place : (k ≡ n) ⊎ (k < n) → (k < n → list_all test (numbers_below n) ≡ false)
          → (list_all test (numbers_below n) && test n) ≡ false
      by_place (inl e) below = fails _ _ (inr (ap test (sym e) ∙ q))
      by_place (inr b) below = fails _ _ (inl (below b))

  pub any_next : (k : ℕ) → list_any test (numbers_below k) ≡ false → test k ≡ false
      → list_any test (numbers_below (k + 1)) ≡ false
  any_next k h q =
      let one : suc k ≡ k + 1 = omega arith in
      subst (λ n. list_any test (numbers_below n) ≡ false) one (any_push test (numbers_below k) k ∙ rw (h, q) refl)

  pub any_found : (n k : ℕ) → test k ≡ true → k < n → list_any test (numbers_below n) ≡ true
  any_found zero k q l = absurd (omega (arith, l))
  any_found (suc n) k q l = any_push test (numbers_below n) n ∙ by_place (last_or_below k n l) (any_found n k q)
    where
      found : (a b : Bool) → (a ≡ true) ⊎ (b ≡ true) → (a || b) ≡ true
      found a b (inl h) = rw h refl
      found true b (inr h) = refl
      found false b (inr h) = h

      by_place : (k ≡ n) ⊎ (k < n) → (k < n → list_any test (numbers_below n) ≡ true)
          → (list_any test (numbers_below n) || test n) ≡ true
      by_place (inl e) below = found _ _ (inr (ap test (sym e) ∙ q))
      by_place (inr b) below = found _ _ (inl (below b))

-- ---- unions

plain_rows : (gs : List AggregateRow) → ((a : ℕ) → is_union_row (slice_get gs a) ≡ false)
    → list_all (λ (g : AggregateRow). not g.is_union) gs ≡ true
plain_rows [] h = refl
plain_rows (g ∷ gs) h = rw (h 0, plain_rows gs (λ a. h (suc a))) refl

past_false : (gs : List AggregateRow) (a : ℕ) → length gs ≤ a → is_union_row (slice_get gs a) ≡ false
past_false gs a l = ap is_union_row (slice_get_past gs a l)

module _ (t : Table) where
  pub some_union : (a : ℕ) → is_union t a ≡ true → has_no_union t ≡ false
  some_union a h = by_row (slice_get t.aggregates a) refl h
    where
      by_row : (o : Option AggregateRow) → slice_get t.aggregates a ≡ o → is_union_row o ≡ true → has_no_union t ≡ false
      by_row None e h = absurd cc
      by_row (Some g) e h = fails_at (λ (g : AggregateRow). not g.is_union) t.aggregates a g e (ap not h)

  pub next_plain : (n : ℕ) → ((a : ℕ) → a < n → is_union t a ≡ false) → is_union t n ≡ false
      → (a : ℕ) → a < n + 1 → is_union t a ≡ false
  next_plain n h q a l = elim (last_or_below a n (omega (arith, l))) [
    | inl e ↦ ap (is_union t) e ∙ q
    | inr b ↦ h a b
  ]

  pub no_union : (n : ℕ) → ((a : ℕ) → a < n → is_union t a ≡ false) → length t.aggregates ≤ n → has_no_union t ≡ true
  no_union n h past = plain_rows t.aggregates each
    where
      each : (a : ℕ) → is_union t a ≡ false
      each a = elim (eq-zero-or-pos (n - a)) [
        | inl over ↦ past_false t.aggregates a (omega (arith, over, past))
        | inr below ↦ h a (omega (arith, below))
      ]
