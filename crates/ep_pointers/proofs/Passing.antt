-- A list of targets is gone through while the other is followed by block.
use Rattle.std.proofs.Common.{◌≡◌, ℕ, suc, ◌+◌, ◌<◌, ◌≤◌, Bool, true, false, ◌&&◌, ◌||◌, List, [], ◌∷◌, drop, length}
use Rattle.std.proofs.Common.{get_or, refl, sym, ap, ◌∙◌, subst, Option, arith, add-one, drop-cons}
use Rattle.std.specs.List.{list_all, list_any}
use Rattle.ep_pointers.specs.Value.{Target, AreAbove, IsRising, offset_at}
use Rattle.ep_pointers.specs.Parts.{from_block, offset_first}
use Rattle.ep_pointers.proofs.Lists.{rising_drop, offset_from, offset_first_is}

module _ {N : Type 0} (W : Target N → Option N → Bool) where
  -- the test of a target with what the second list has at its block
  abbrev pub tests : List (Target N) → Target N → Bool
  tests us t = W t (offset_at us t.0)

  all_moved : (b : ℕ) (ts us : List (Target N)) → AreAbove b ts
      → list_all (tests (from_block b us)) ts ≡ list_all (tests us) ts
  all_moved b [] us h = refl
  all_moved b (t ∷ ts) us h = let le : b ≤ t.0 = omega (arith, h.0) in rw
      (offset_from b t.0 us le, all_moved b ts us h.1)

  any_moved : (b : ℕ) (ts us : List (Target N)) → AreAbove b ts
      → list_any (tests (from_block b us)) ts ≡ list_any (tests us) ts
  any_moved b [] us h = refl
  any_moved b (t ∷ ts) us h = let le : b ≤ t.0 = omega (arith, h.0) in rw
      (offset_from b t.0 us le, any_moved b ts us h.1)

  -- one target is read, and the place in the second list is moved on to its block
  pub record Step (xs ys : List (Target N)) (k at to : ℕ) (t : Target N) (o : Option N) : Type 0 where
    pub left : IsRising xs
    pub right : IsRising ys
    pub inside : k < length xs
    pub is : t ≡ get_or xs k t
    pub moved : drop to ys ≡ from_block t.0 (drop at ys)
    pub found : o ≡ offset_first (drop to ys) t.0

  module _ (xs ys : List (Target N)) (k at to : ℕ) (t : Target N) (o : Option N) (s : Step xs ys k at to t o) where
    here : drop k xs ≡ t ∷ drop (suc k) xs
    here = drop-cons xs k t s.inside ∙ ap (λ z. z ∷ drop (suc k) xs) (sym s.is)

    rising : IsRising (t ∷ drop (suc k) xs)
    rising = subst IsRising here (rising_drop k xs s.left)

    offset : offset_at (drop at ys) t.0 ≡ o
    offset = sym (offset_first_is t.0 (drop at ys) (rising_drop at ys s.right))
        ∙ ap (λ z. offset_first z t.0) (sym s.moved) ∙ sym s.found

    pub all_step : list_all (tests (drop at ys)) (drop k xs) ≡ (W t o && list_all (tests (drop to ys))
        (drop (suc k) xs))
    all_step =
        ap (list_all (tests (drop at ys))) here
        ∙ ap (λ z. W t z && list_all (tests (drop at ys)) (drop (suc k) xs)) offset
        ∙ ap (λ z. W t o && z) (sym (all_moved t.0 (drop (suc k) xs) (drop at ys) rising.0)
        ∙ ap (λ z. list_all (tests z) (drop (suc k) xs)) (sym s.moved))

    pub any_step : list_any (tests (drop at ys)) (drop k xs) ≡ (W t o || list_any (tests (drop to ys))
        (drop (suc k) xs))
    any_step =
        ap (list_any (tests (drop at ys))) here
        ∙ ap (λ z. W t z || list_any (tests (drop at ys)) (drop (suc k) xs)) offset
        ∙ ap (λ z. W t o || z) (sym (any_moved t.0 (drop (suc k) xs) (drop at ys) rising.0)
        ∙ ap (λ z. list_any (tests z) (drop (suc k) xs)) (sym s.moved))

    -- the same one place on
    on : drop (k + 1) xs ≡ drop (suc k) xs
    on = ap (λ i. drop i xs) (add-one k)

    -- what is left decides, where the test is passed, and else the answer is no
    pub all_on : (r : Bool) → r ≡ W t o → (whole : Bool) → list_all (tests (drop at ys)) (drop k xs) ≡ whole
        → (r && list_all (tests (drop to ys)) (drop (k + 1) xs)) ≡ whole
    all_on r e whole h = rw (on, e) (sym all_step ∙ h)

    pub any_on : (r : Bool) → r ≡ W t o → (before whole : Bool)
        → (before || list_any (tests (drop at ys)) (drop k xs)) ≡ whole
        → ((before || r) || list_any (tests (drop to ys)) (drop (k + 1) xs)) ≡ whole
    any_on r e before whole h = rw (on, e) (assoc before (W t o) _ ∙ ap (λ z. before || z) (sym any_step) ∙ h)
      where
        assoc : (a b c : Bool) → ((a || b) || c) ≡ (a || (b || c))
        assoc true b c = refl
        assoc false b c = refl
