-- The first place of an element that passes a test.
use Rattle.std.proofs.Common.{◌≡◌, ℕ, ◌+◌, ◌<◌, ◌≤◌, Bool, true, false, cond, not, List, [], ◌∷◌, ◌++◌, length}
use Rattle.std.proofs.Common.{length-append, get_or, slice_get, Some, None, refl, sym, ◌∙◌, ap, subst, arith, nat_lt}
use Rattle.std.proofs.Common.{eqb, position, true≢false}
use Rattle.std.specs.List.{position_or_len, list_any}
use Rattle.std.proofs.lemmas.Bool.Decides.{nat_tests}
use Rattle.std.proofs.lemmas.Option.{slice_get-get_or}
use Rattle.std.proofs.lemmas.List.Sums.{prefix_len-le-length, prefix_len_stops, prefix_len_passes}
use Rattle.std.proofs.lemmas.List.Folds.{position_or_len_push, list_any_none}

module _ {X : Type 0} (p : X → Bool) where
  at_most : (xs : List X) → position_or_len p xs ≤ length xs
  at_most xs = prefix_len-le-length (λ x. not (p x)) xs

  nowhere : (k n : ℕ) (b : Bool) → nat_lt k n ≡ b → cond b (Some k) None ≡ None → k ≤ n → k ≡ n
  nowhere k n true e h l = absurd cc
  nowhere k n false e h l = grind (arith, nat_tests)

  somewhere : (k n i : ℕ) (b : Bool) → nat_lt k n ≡ b → cond b (Some k) None ≡ Some i → (k ≡ i) × (i < n)
  somewhere k n i true e h = let same : k ≡ i = cc in (same, subst (λ (j : ℕ). j < n) same (grind (arith, nat_tests)))
  somewhere k n i false e h = absurd cc

  pub position_none : (xs : List X) → position p xs ≡ None → position_or_len p xs ≡ length xs
  position_none xs h = nowhere (position_or_len p xs) (length xs) (nat_lt (position_or_len p xs) (length xs)) refl h (at_most xs)

  pub position_is : (xs : List X) (i : ℕ) → position p xs ≡ Some i → (position_or_len p xs ≡ i) × (i < length xs)
  position_is xs i h = somewhere (position_or_len p xs) (length xs) i (nat_lt (position_or_len p xs) (length xs)) refl h

  is_not : (b : Bool) → not b ≡ false → b ≡ true
  is_not true h = refl
  is_not false h = absurd (true≢false h)

  -- what stands at the place passes
  pub position_some : (xs : List X) (i : ℕ) (d : X) → position p xs ≡ Some i → (x : X) × (slice_get xs i ≡ Some x) × (p x ≡ true)
  position_some xs i d h =
      let s = somewhere (position_or_len p xs) (length xs) i (nat_lt (position_or_len p xs) (length xs)) refl h in
      let l : position_or_len p xs < length xs = omega (arith, s.0, s.1) in
      let q = is_not (p (get_or xs (position_or_len p xs) d)) (prefix_len_stops (λ x. not (p x)) xs d l) in
      (get_or xs i d, slice_get-get_or xs i d s.1, subst (λ (j : ℕ). p (get_or xs j d) ≡ true) s.0 q)

  found_at : (k n : ℕ) (b : Bool) → nat_lt k n ≡ b → k < n → cond b (Some k) None ≡ Some k
  found_at k n true e l = refl
  found_at k n false e l = absurd (grind (arith, nat_tests))

  eqb_same : (k n : ℕ) → k ≡ n → eqb k n ≡ true
  eqb_same k n e = grind (arith, nat_tests)

  pick : (b c : Bool) (k n : ℕ) → b ≡ true → c ≡ true → cond b (n + cond c 0 1) k ≡ n
  pick b c k n e f = rw (e, f) (omega arith)

  -- where none passes, one that passes is found when it is put behind
  pub position_push : (xs : List X) (x : X) → position p xs ≡ None → p x ≡ true → position p (xs ++ x ∷ []) ≡ Some (length xs)
  position_push xs x h q =
      let k = position_none xs h in
      let e : position_or_len p (xs ++ x ∷ []) ≡ length xs = position_or_len_push p xs x ∙ pick (eqb (position_or_len p xs) (length xs)) (p x) (position_or_len p xs) (length xs) (eqb_same _ _ k) q in
      found_at (position_or_len p (xs ++ x ∷ [])) (length (xs ++ x ∷ [])) (nat_lt (position_or_len p (xs ++ x ∷ [])) (length (xs ++ x ∷ []))) refl (omega (arith, e, length-append xs (x ∷ []))) ∙ ap Some e

  pub none_any : (xs : List X) → position p xs ≡ None → list_any p xs ≡ false
  none_any xs h = list_any_none p xs (λ k d l. fails (p (get_or xs k d)) (prefix_len_passes (λ x. not (p x)) xs k d (omega (arith, position_none xs h, l))))
    where
      fails : (b : Bool) → not b ≡ true → b ≡ false
      fails true e = absurd (true≢false (sym e))
      fails false e = refl

  pick_old : (b : Bool) (k x : ℕ) → b ≡ false → cond b x k ≡ k
  pick_old b k x e = rw e refl

  eqb_below : (k n : ℕ) → k < n → eqb k n ≡ false
  eqb_below k n l = grind (arith, nat_tests)

  -- a place that was found stays
  pub position_stays : (xs : List X) (x : X) (i : ℕ) → position p xs ≡ Some i → position p (xs ++ x ∷ []) ≡ Some i
  position_stays xs x i h =
      let s = somewhere (position_or_len p xs) (length xs) i (nat_lt (position_or_len p xs) (length xs)) refl h in
      let l : position_or_len p xs < length xs = omega (arith, s.0, s.1) in
      let e : position_or_len p (xs ++ x ∷ []) ≡ position_or_len p xs = position_or_len_push p xs x ∙ pick_old (eqb (position_or_len p xs) (length xs)) (position_or_len p xs) _ (eqb_below _ _ l) in
      found_at (position_or_len p (xs ++ x ∷ [])) (length (xs ++ x ∷ [])) (nat_lt (position_or_len p (xs ++ x ∷ [])) (length (xs ++ x ∷ []))) refl (omega (arith, e, l, length-append xs (x ∷ []))) ∙ ap Some (e ∙ s.0)

  not_found : (k n : ℕ) (b : Bool) → nat_lt k n ≡ b → n ≤ k → cond b (Some k) None ≡ None
  not_found k n true e l = absurd (grind (arith, nat_tests))
  not_found k n false e l = refl

  pick_one : (b c : Bool) (k n : ℕ) → b ≡ true → c ≡ false → cond b (n + cond c 0 1) k ≡ n + 1
  pick_one b c k n e f = rw (e, f) refl

  -- where one that fails is put behind, none is found that wasn't
  pub position_fails : (xs : List X) (x : X) → position p xs ≡ None → p x ≡ false → position p (xs ++ x ∷ []) ≡ None
  position_fails xs x h q =
      let e : position_or_len p (xs ++ x ∷ []) ≡ length xs + 1 = position_or_len_push p xs x ∙ pick_one (eqb (position_or_len p xs) (length xs)) (p x) (position_or_len p xs) (length xs) (eqb_same _ _ (position_none xs h)) q in
      not_found (position_or_len p (xs ++ x ∷ [])) (length (xs ++ x ∷ [])) (nat_lt (position_or_len p (xs ++ x ∷ [])) (length (xs ++ x ∷ []))) refl (omega (arith, e, length-append xs (x ∷ [])))
