-- The locals of a function of a well-formed program are neither global nor the function's result.
use Rattle.std.proofs.Common.{◌≡◌, ℕ, zero, suc, Bool, true, false, ◌&&◌, ◌||◌, not, nat_eq, List, [], ◌∷◌, ◌++◌}
use Rattle.ep_int.proofs.Basics.{contains-left, contains-right}
use Rattle.std.proofs.lemmas.Bool.{not-true, or_cases}
use Rattle.std.proofs.Common.{length, ⊎_elim, slice_get, Option, Some, None, is_some, option_to_list, refl, sym}
use Rattle.std.proofs.Common.{subst}
use Rattle.std.specs.List.{list_all, flat_map}
use Rattle.std.proofs.lemmas.Bool.{and_parts, eq-eqb, eqb-true, or_left, both_ways, false_from_ne_true}
use Rattle.ep_int.specs.declared.types.Scalar.{Scalar}
use Rattle.ep_int.specs.Memory.{contains}
use Rattle.ep_core.specs.Program.{Function, Program}
use Rattle.ep_core.specs.Exec.{first_of, frame_of}
use Rattle.ep_core.specs.Runs.{is_global, is_result}
use Rattle.ep_core.specs.WellFormed.{scoped, own_blocks, are_different, are_listed, blocks_fit, init_fits}
use Rattle.ep_core.specs.WellFormed.{are_different_leaves, functions_fit, is_main, is_well_formed}
use Rattle.ep_core.specs.WellFormed.{numbers_below}

-- ---- lists of numbers

-- no number is in both parts
not_both : (b : ℕ) (xs ys : List ℕ) → are_different (xs ++ ys) ≡ true → contains b xs ≡ true → contains b ys ≡ true → ⊥
not_both b [] ys h i j = let q : false ≡ true = i in absurd (cc)
not_both b (x ∷ xs) ys h i j =
    let d = and_parts (not (contains x (xs ++ ys))) (are_different (xs ++ ys)) h in
    ⊎_elim
    (λ e. absurd (both_ways (contains x (xs ++ ys)) (not-true (contains x (xs ++ ys)) d.0)
    (subst (λ c. contains c (xs ++ ys) ≡ true) (eqb-true b x e) (contains-right b xs ys j))))
    (λ e. not_both b xs ys d.1 e j) (or_cases (nat_eq b x) (contains b xs) i)

pub different_first : (xs ys : List ℕ) → are_different (xs ++ ys) ≡ true → are_different xs ≡ true
different_first [] ys h = refl
different_first (x ∷ xs) ys h =
    let d = and_parts (not (contains x (xs ++ ys))) (are_different (xs ++ ys)) h in
    let off : contains x xs ≡ false = false_from_ne_true (contains x xs) (λ e. absurd (both_ways
    (contains x (xs ++ ys)) (not-true (contains x (xs ++ ys)) d.0) (contains-left x xs ys e))) in
    rw (off, different_first xs ys d.1) refl

pub different_second : (xs ys : List ℕ) → are_different (xs ++ ys) ≡ true → are_different ys ≡ true
different_second [] ys h = h
different_second (x ∷ xs) ys h =
    different_second xs ys (and_parts (not (contains x (xs ++ ys))) (are_different (xs ++ ys)) h).1

tested_in : (test : ℕ → Bool) (b : ℕ) (xs : List ℕ) → list_all test xs ≡ true → contains b xs ≡ true → test b ≡ true
tested_in test b [] h i = absurd (let q : false ≡ true = i in cc)
tested_in test b (x ∷ xs) h i =
    let a = and_parts (test x) (list_all test xs) h in
    ⊎_elim (λ e. subst (λ c. test c ≡ true) (sym (eqb-true b x e)) a.0) (λ e. tested_in test b xs a.1 e)
    (or_cases (nat_eq b x) (contains b xs) i)

-- ---- blocks of functions

pub owned : (fs : List Function) (k : ℕ) (f : Function) → slice_get fs k ≡ Some f → (b : ℕ)
    → contains b (own_blocks f) ≡ true → contains b (flat_map own_blocks fs) ≡ true
owned [] k f at b h = absurd (let q : None ≡ Some f = at in cc)
owned (g ∷ fs) zero f at b h =
    let q : g ≡ f = (let r : Some g ≡ Some f = at in cc) in
    contains-left b (own_blocks g) (flat_map own_blocks fs) (subst (λ x. contains b (own_blocks x) ≡ true) (sym q) h)
owned (g ∷ fs) (suc k) f at b h =
    contains-right b (own_blocks g) (flat_map own_blocks fs) (owned fs k f at b h)

pub different_at : (fs : List Function) (k : ℕ) (f : Function) → slice_get fs k ≡ Some f
    → are_different (flat_map own_blocks fs) ≡ true → are_different (own_blocks f) ≡ true
different_at [] k f at h = absurd (let q : None ≡ Some f = at in cc)
different_at (g ∷ fs) zero f at h =
    let q : g ≡ f = (let r : Some g ≡ Some f = at in cc) in
    subst (λ x. are_different (own_blocks x) ≡ true) q
    (different_first (own_blocks g) (flat_map own_blocks fs) h)
different_at (g ∷ fs) (suc k) f at h =
    different_at fs k f at (different_second (own_blocks g) (flat_map own_blocks fs) h)

module _ (p : Program) (formed : is_well_formed p ≡ true) where
  listed : are_listed p.blocks (flat_map own_blocks p.functions) ≡ true
  listed =
      let s = and_parts _ (is_main (slice_get p.functions p.main)) formed in
      let q = and_parts _ (functions_fit p 0 p.functions) s.0 in
      (and_parts (blocks_fit p.types p.blocks
      && (list_all (init_fits p.types p.blocks) p.init && are_different_leaves p.init))
      (are_listed p.blocks (flat_map own_blocks p.functions)) q.0).1

  module _ (k : ℕ) (f : Function) (at : slice_get p.functions k ≡ Some f) (b : ℕ)
      (local : contains b f.locals ≡ true) where
    local_owned : contains b (own_blocks f) ≡ true
    local_owned = contains-left b (frame_of f) (first_of (option_to_list f.result) ++ scoped f.body)
        (contains-right b (first_of f.params) f.locals local)

    pub not_global : is_global (slice_get p.blocks b) ≡ false
    not_global =
        let own = flat_map own_blocks p.functions in
        let a = and_parts (are_different own
        && list_all (λ b. is_some (slice_get p.blocks b) && not (is_global (slice_get p.blocks b))) own)
        (list_all (λ b. is_global (slice_get p.blocks b) || contains b own) (numbers_below (length p.blocks))) listed in
        let c = and_parts (are_different own)
        (list_all (λ b. is_some (slice_get p.blocks b) && not (is_global (slice_get p.blocks b))) own) a.0 in
        not-true (is_global (slice_get p.blocks b))
        (and_parts (is_some (slice_get p.blocks b)) (not (is_global (slice_get p.blocks b)))
        (tested_in (λ b. is_some (slice_get p.blocks b) && not (is_global (slice_get p.blocks b))) b own c.1
        (owned p.functions k f at b local_owned))).1

    pub not_result : is_result f.result b ≡ false
    not_result = by_result f.result refl
      where
        by_result : (o : Option (ℕ × Scalar)) → f.result ≡ o → is_result o b ≡ false
        by_result None e = refl
        by_result (Some r) e =
            false_from_ne_true (nat_eq r.0 b)
            (λ h.
            let own = flat_map own_blocks p.functions in
            let a = and_parts (are_different own) _ (and_parts _ _ listed).0 in
            not_both b (frame_of f) (first_of (option_to_list f.result) ++ scoped f.body)
            (different_at p.functions k f at a.0) (contains-right b (first_of f.params) f.locals local)
            (contains-left b (first_of (option_to_list f.result)) (scoped f.body)
            (subst (λ o. contains b (first_of (option_to_list o)) ≡ true) (sym e)
            (or_left (nat_eq b r.0) false (eq-eqb b r.0 (sym (eqb-true r.0 b h)))))))
