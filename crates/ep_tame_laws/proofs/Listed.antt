-- Main's result is none of the blocks of frames and scopes, and of no function before it.
use Rattle.std.proofs.Common.{◌≡◌, ℕ, zero, suc, ◌≤◌, ◌<◌, Bool, true, false, ◌&&◌, not, nat_eq, nat_lt, List, [], ◌∷◌, ◌++◌}
use Rattle.ep_transfers.proofs.Locals.{different_second}
use Rattle.ep_transfers.proofs.Locals.{owned}
use Rattle.ep_transfers.proofs.Locals.{different_at}
use Rattle.std.proofs.Common.{⊎_elim, slice_get, Option, Some, None, is_some, option_to_list, refl, sym, ◌∙◌, subst, arith, if◌then◌else◌}
use Rattle.std.specs.List.{list_all, flat_map}
use Rattle.std.proofs.lemmas.Bool.{and_parts, eq-eqb, eqb-true, or_cases, or_left, both_ways, not-true, ltb-true}
use Rattle.std.proofs.lemmas.Bool.{false_from_ne_true}
use Rattle.ep_int.specs.declared.types.Scalar.{Scalar}
use Rattle.ep_int.specs.Memory.{contains}
use Rattle.ep_int.proofs.Basics.{contains-left, contains-right}
use Rattle.ep_core.specs.Program.{Function, Program}
use Rattle.ep_core.specs.Exec.{first_of, frame_of, callee_of, result_in}
use Rattle.ep_core.specs.Runs.{is_global, is_result}
use Rattle.ep_core.specs.WellFormed.{scoped, own_blocks, are_different, are_listed, is_well_formed, is_main}
use Rattle.ep_tame_laws.specs.Tamely.{result_block, is_result_of_main, HaveNoResult}

-- ---- lists in which no number stands twice

-- of what is in the one part nothing is in the other
apart_in : (b : ℕ) (xs ys : List ℕ) → are_different (xs ++ ys) ≡ true → contains b xs ≡ true → contains b ys ≡ false
apart_in b [] ys h i = absurd cc
apart_in b (x ∷ xs) ys h i =
    let d = and_parts (not (contains x (xs ++ ys))) (are_different (xs ++ ys)) h in
    ⊎_elim
    (λ e. false_from_ne_true (contains b ys) (λ j. both_ways (contains x (xs ++ ys)) (not-true _ d.0)
    (subst (λ c. contains c (xs ++ ys) ≡ true) (eqb-true b x e) (contains-right b xs ys j))))
    (λ e. apart_in b xs ys d.1 e) (or_cases (nat_eq b x) (contains b xs) i)

-- ---- blocks of functions

no_function : {A : Type 0} (f : Function) → None ≡ Some f → A
no_function f e = absurd cc

same_function : (g f : Function) → Some g ≡ Some f → g ≡ f
same_function g f e = cc

-- two functions have no block of both
functions_apart : (fs : List Function) (k n : ℕ) (f g : Function) → slice_get fs k ≡ Some f → slice_get fs n ≡ Some g
    → k < n → are_different (flat_map own_blocks fs) ≡ true → (b : ℕ) → contains b (own_blocks f) ≡ true
    → contains b (own_blocks g) ≡ false
functions_apart [] k n f g at to less h b i = no_function f at
functions_apart (x ∷ fs) k zero f g at to less h b i = absurd (omega (arith, less))
functions_apart (x ∷ fs) zero (suc n) f g at to less h b i =
    false_from_ne_true (contains b (own_blocks g)) (λ j. both_ways (contains b (flat_map own_blocks fs))
    (apart_in b (own_blocks x) (flat_map own_blocks fs) h
    (subst (λ y. contains b (own_blocks y) ≡ true) (sym (same_function x f at)) i))
    (owned fs n g to b j))
functions_apart (x ∷ fs) (suc k) (suc n) f g at to less h b i =
    functions_apart fs k n f g at to (omega (arith, less)) (different_second (own_blocks x) (flat_map own_blocks fs) h) b i

module _ (p : Program) (formed : is_well_formed p ≡ true) where
  listed : are_listed p.blocks (flat_map own_blocks p.functions) ≡ true
  listed =
      let s = and_parts _ (is_main (slice_get p.functions p.main)) formed in
      let q = and_parts _ _ s.0 in
      (and_parts _ (are_listed p.blocks (flat_map own_blocks p.functions)) q.0).1

  different : are_different (flat_map own_blocks p.functions) ≡ true
  different =
      (and_parts (are_different (flat_map own_blocks p.functions)) _ (and_parts _ _ listed).0).0

  -- main's result is a block of main
  in_result : (o : Option (ℕ × Scalar)) (b : ℕ) → is_result o b ≡ true
      → contains b (first_of (option_to_list o)) ≡ true
  in_result None b e = absurd cc
  in_result (Some r) b e = or_left (nat_eq b r.0) false (eq-eqb b r.0 (sym (eqb-true r.0 b e)))

  -- what holds where main isn't there
  main_has : (b : ℕ) → is_result_of_main p b ≡ true → (A : Type 0)
      → ((m : Function) → slice_get p.functions p.main ≡ Some m → contains b (result_block m) ≡ true → A) → A
  main_has b e A go = at (slice_get p.functions p.main) refl e
    where
      at : (o : Option Function) → slice_get p.functions p.main ≡ o → is_result (result_in o) b ≡ true → A
      at None q e = absurd cc
      at (Some m) q e = go m q (in_result m.result b e)

  owned_result : (m : Function) (b : ℕ) → contains b (result_block m) ≡ true → contains b (own_blocks m) ≡ true
  owned_result m b i =
      contains-right b (frame_of m) (result_block m ++ scoped m.body) (contains-left b (result_block m) (scoped m.body) i)

  -- main's result isn't global
  pub result_local : (b : ℕ) → is_result_of_main p b ≡ true → is_global (slice_get p.blocks b) ≡ false
  result_local b e = main_has b e (is_global (slice_get p.blocks b) ≡ false) (λ m to i. not_global b
      (owned p.functions p.main m to b (owned_result m b i)))
    where
      each_in : (test : ℕ → Bool) (c : ℕ) (xs : List ℕ) → list_all test xs ≡ true → contains c xs ≡ true
          → test c ≡ true
      each_in test c [] h i = absurd cc
      each_in test c (x ∷ xs) h i =
          let a = and_parts (test x) (list_all test xs) h in
          ⊎_elim (λ s. subst (λ y. test y ≡ true) (sym (eqb-true c x s)) a.0) (λ s. each_in test c xs a.1 s)
          (or_cases (nat_eq c x) (contains c xs) i)

      not_global : (b : ℕ) → contains b (flat_map own_blocks p.functions) ≡ true
          → is_global (slice_get p.blocks b) ≡ false
      not_global b i =
          not-true (is_global (slice_get p.blocks b))
          (and_parts (is_some (slice_get p.blocks b)) (not (is_global (slice_get p.blocks b)))
          (each_in (λ b. is_some (slice_get p.blocks b) && not (is_global (slice_get p.blocks b))) b
          (flat_map own_blocks p.functions)
          (and_parts (are_different (flat_map own_blocks p.functions)) _ (and_parts _ _ listed).0).1 i)).1

  -- ---- frames and scopes of any function, and results before main

  module _ (k : ℕ) (f : Function) (at : slice_get p.functions k ≡ Some f) where
    -- a block of the function that isn't main's result
    not_main : (b : ℕ) → contains b (own_blocks f) ≡ true
        → (k ≡ p.main → contains b (result_block f) ≡ false) → k ≤ p.main → is_result_of_main p b ≡ false
    not_main b own off below =
        false_from_ne_true (is_result_of_main p b) (λ e. main_has b e ⊥ (λ m to i. by_number m to i (nat_eq k p.main) refl))
      where
        at_most : (a c : ℕ) → a ≤ c → (a ≡ c → ⊥) → a < c
        at_most a c h n = grind (arith, h, n)

        by_number : (m : Function) → slice_get p.functions p.main ≡ Some m → contains b (result_block m) ≡ true
            → (t : Bool) → nat_eq k p.main ≡ t → ⊥
        by_number m to i true e =
            let same = eqb-true k p.main e in
            let q = same_function f m (sym at ∙ subst (λ n. slice_get p.functions n ≡ Some m) (sym same) to) in
            both_ways (contains b (result_block f)) (off same)
            (subst (λ x. contains b (result_block x) ≡ true) (sym q) i)
        by_number m to i false e =
            let less : k < p.main = at_most k p.main below (λ s. both_ways (nat_eq k p.main) e (eq-eqb k p.main s)) in
            both_ways (contains b (own_blocks m))
            (functions_apart p.functions k p.main f m at to less different b own) (owned_result m b i)

    pub frame_free : k ≤ p.main → HaveNoResult p (frame_of f)
    frame_free below b i =
        not_main b (contains-left b (frame_of f) (result_block f ++ scoped f.body) i)
        (λ s. false_from_ne_true (contains b (result_block f)) (λ j. both_ways
        (contains b (result_block f ++ scoped f.body))
        (apart_in b (frame_of f) (result_block f ++ scoped f.body) (different_at p.functions k f at different) i)
        (contains-left b (result_block f) (scoped f.body) j))) below

    pub scopes_free : k ≤ p.main → HaveNoResult p (scoped f.body)
    scopes_free below b i =
        not_main b (contains-right b (frame_of f) (result_block f ++ scoped f.body)
        (contains-right b (result_block f) (scoped f.body) i))
        (λ s. false_from_ne_true (contains b (result_block f)) (λ j. both_ways (contains b (scoped f.body))
        (apart_in b (result_block f) (scoped f.body)
        (different_second (frame_of f) (result_block f ++ scoped f.body) (different_at p.functions k f at different)) j) i)) below

    pub result_free : k < p.main → HaveNoResult p (result_block f)
    result_free less b i =
        not_main b (owned_result f b i) (λ s. absurd (omega (arith, less, s))) (omega (arith, less))

-- a callee comes before its caller
pub callee_before : (p : Program) (here k : ℕ) (f : Function) → callee_of p here k ≡ Some f → k < here
callee_before p here k f h = at (nat_lt k here) refl h
  where
    at : (t : Bool) → nat_lt k here ≡ t → (if t then slice_get p.functions k else None) ≡ Some f → k < here
    at true e q = ltb-true k here e
    at false e q = no_function f q
