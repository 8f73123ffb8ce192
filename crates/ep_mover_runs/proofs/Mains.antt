-- What is known of the program that has a mover's form.
use Rattle.std.proofs.Common.{◌≡◌, ℕ, zero, suc, ◌+◌, Bool, true, false, ◌&&◌, ◌||◌, not, nat_eq, List, [], ◌∷◌, ◌++◌}
use Rattle.std.proofs.Common.{length, slice_get, Option, Some, None, option_to_list, ⊎_elim, refl, sym, ◌∙◌, ap, subst}
use Rattle.std.proofs.Common.{arith}
use Rattle.std.specs.Prelude.{is_some}
use Rattle.std.specs.Option.{option_map_or}
use Rattle.std.specs.List.{list_all, flat_map}
use Rattle.std.proofs.lemmas.Bool.{and_parts, or_cases, both_ways, not-true, eqb-true, or_left}
use Rattle.ep_int.proofs.Basics.{nat_eq-self, contains-left, contains-right, append-nil}
use Rattle.ep_int.specs.declared.types.IntType.TheVariants.{I32}
use Rattle.ep_int.specs.declared.types.Scalar.{Scalar}
use Rattle.ep_int.specs.declared.types.Scalar.TheVariants.{Int as Number}
use Rattle.ep_int.specs.Memory.{contains}
use Rattle.ep_layout.specs.Table.{Table}
use Rattle.ep_core.specs.Program.{block, Block, Function, Program}
use Rattle.ep_core.specs.Exec.{first_of, frame_of, result_in}
use Rattle.ep_core.specs.Runs.{is_global, is_result}
use Rattle.ep_core.specs.WellFormed.{are_different, scoped, own_blocks, is_named, block_has, place_has}
use Rattle.ep_core.specs.WellFormed.{are_listed, holds_scalar, functions_fit}
use Rattle.ep_core.specs.WellFormed.{is_int_result, is_main, is_well_formed, stmts_fit, result_type}
use Rattle.ep_core.proofs.Sorts.{never, same_scalar}
use Rattle.ep_core.proofs.Operands.{fits_at}
use Rattle.ep_movers.specs.Forms.{is_moved_type, are_moved_blocks, are_moving, is_moving_main, has_moving_form}
use Rattle.ep_mover_runs.specs.Following.{blocks_of_main}

-- ---- lists of numbers

-- no number is in both parts
not_both : (b : ℕ) (xs ys : List ℕ) → are_different (xs ++ ys) ≡ true → contains b xs ≡ true → contains b ys ≡ true → ⊥
not_both b [] ys h i j = never i
not_both b (x ∷ xs) ys h i j =
    let d = and_parts (not (contains x (xs ++ ys))) (are_different (xs ++ ys)) h in
    ⊎_elim
    (λ e. absurd (both_ways (contains x (xs ++ ys)) (not-true (contains x (xs ++ ys)) d.0)
    (subst (λ c. contains c (xs ++ ys) ≡ true) (eqb-true b x e) (contains-right b xs ys j))))
    (λ e. not_both b xs ys d.1 e j) (or_cases (nat_eq b x) (contains b xs) i)

tested_in : (test : ℕ → Bool) (b : ℕ) (xs : List ℕ) → list_all test xs ≡ true → contains b xs ≡ true → test b ≡ true
tested_in test b [] h i = never i
tested_in test b (x ∷ xs) h i =
    let a = and_parts (test x) (list_all test xs) h in
    ⊎_elim (λ e. subst (λ c. test c ≡ true) (sym (eqb-true b x e)) a.0) (λ e. tested_in test b xs a.1 e)
    (or_cases (nat_eq b x) (contains b xs) i)

-- ---- main

-- main is the only function
pub record IsMover (p : Program) : Type 0 where
  pub main : Function
  pub alone : p.functions ≡ main ∷ []
  pub at : slice_get p.functions p.main ≡ Some main
  pub blocks : are_moved_blocks p.types (result_in (Some main)) 0 p.blocks ≡ true
  pub moving : are_moving p main.body ≡ true

only : (p : Program) (fs : List Function) → is_moving_main p fs ≡ true
    → (f : Function) × (fs ≡ f ∷ []) × (are_moved_blocks p.types (result_in (Some f)) 0 p.blocks ≡ true)
    × (are_moving p f.body ≡ true)
only p [] h = never h
only p (f ∷ []) h =
    let s = and_parts (are_moved_blocks p.types (result_in (Some f)) 0 p.blocks) (are_moving p f.body) h in
    (f, refl, s.0, s.1)
only p (f ∷ g ∷ fs) h = never h

first_alone : (f : Function) (n : ℕ) → is_main (slice_get (f ∷ []) n) ≡ true → slice_get (f ∷ []) n ≡ Some f
first_alone f zero h = refl
first_alone f (suc n) h = never h

-- ---- blocks

moved_block : (t : Table) (r : Option (ℕ × Scalar)) (n k : ℕ) (bs : List Block) (d : Block)
    → are_moved_blocks t r n bs ≡ true → slice_get bs k ≡ Some d
    → (is_result r (n + k) || option_map_or (is_moved_type t) (slice_get t.types d.ty) false) ≡ true
moved_block t r n k [] d h e = absurd cc
moved_block t r n zero (b ∷ bs) d h e =
    let same : b ≡ d = cc in
    let here : n ≡ n + 0 = omega arith in
    subst (λ j. (is_result r j || option_map_or (is_moved_type t) (slice_get t.types d.ty) false) ≡ true) here
    (subst (λ (x : Block). (is_result r n || option_map_or (is_moved_type t) (slice_get t.types x.ty) false)
    ≡ true) same
    (and_parts (is_result r n || option_map_or (is_moved_type t) (slice_get t.types b.ty) false)
    (are_moved_blocks t r (suc n) bs) h).0)
moved_block t r n (suc k) (b ∷ bs) d h e =
    let here : suc n + k ≡ n + suc k = omega arith in
    subst (λ j. (is_result r j || option_map_or (is_moved_type t) (slice_get t.types d.ty) false) ≡ true) here
    (moved_block t r (suc n) k bs d
    (and_parts (is_result r n || option_map_or (is_moved_type t) (slice_get t.types b.ty) false)
    (are_moved_blocks t r (suc n) bs) h).1 e)

module _ (p : Program) (formed : is_well_formed p ≡ true) where
  tests : (are_listed p.blocks (flat_map own_blocks p.functions) ≡ true)
      × (is_main (slice_get p.functions p.main) ≡ true)
  tests =
      let s = and_parts _ (is_main (slice_get p.functions p.main)) formed in
      let q = and_parts _ (functions_fit p 0 p.functions) s.0 in
      ((and_parts _ (are_listed p.blocks (flat_map own_blocks p.functions)) q.0).1, s.1)

  pub is_mover : has_moving_form p ≡ true → IsMover p
  is_mover form =
      let f = only p p.functions form in
      let main : slice_get p.functions p.main ≡ Some f.0 =
      subst (λ fs. slice_get fs p.main ≡ Some f.0) (sym f.1)
      (first_alone f.0 p.main (subst (λ fs. is_main (slice_get fs p.main) ≡ true) f.1 tests.1)) in
      record { main = f.0; alone = f.1; at = main; blocks = f.2; moving = f.3 }

  module _ (g : IsMover p) where
    pub named_first : blocks_of_main (slice_get p.functions p.main) ≡ frame_of g.main
    named_first = ap blocks_of_main g.at

    pub main_fits : stmts_fit p p.main (result_type p.blocks g.main.result) g.main.body (frame_of g.main) false ≡ true
    main_fits = (fits_at p formed p.main g.main g.at).2

    pub result_holds : list_all (holds_scalar p.types p.blocks) (option_to_list g.main.result) ≡ true
    result_holds = (fits_at p formed p.main g.main g.at).1

    pub has_int_result : is_int_result g.main.result ≡ true
    has_int_result =
        (and_parts (nat_eq (length g.main.params) 0) (is_int_result g.main.result)
        (subst (λ (f : Option Function). is_main f ≡ true) g.at tests.1)).1

    own : (are_different (own_blocks g.main ++ []) ≡ true)
        × (list_all (λ b. is_some (slice_get p.blocks b) && not (is_global (slice_get p.blocks b)))
        (own_blocks g.main ++ []) ≡ true)
    own =
        let listed : are_listed p.blocks (own_blocks g.main ++ []) ≡ true
        = subst (λ fs. are_listed p.blocks (flat_map own_blocks fs) ≡ true) g.alone tests.0 in
        and_parts (are_different (own_blocks g.main ++ []))
        (list_all (λ b. is_some (slice_get p.blocks b) && not (is_global (slice_get p.blocks b)))
        (own_blocks g.main ++ []))
        (and_parts _ _ listed).0

    -- the block of main's result can't be named
    unnamed : (r : Option (ℕ × Scalar)) → g.main.result ≡ r → (b : ℕ) → is_result r b ≡ true
        → is_named p.types p.blocks (frame_of g.main) b ≡ true → ⊥
    unnamed None e b h i = never h
    unnamed (Some r) e b h i =
        let same : r.0 ≡ b = eqb-true r.0 b h in
        let rest = first_of (option_to_list g.main.result) ++ scoped g.main.body in
        let here : contains b (first_of (option_to_list g.main.result)) ≡ true
        = subst (λ (x : Option (ℕ × Scalar)). contains b (first_of (option_to_list x)) ≡ true) (sym e)
        (or_left (nat_eq b r.0) false (subst (λ c. nat_eq b c ≡ true) (sym same) (nat_eq-self b))) in
        let later : contains b rest ≡ true
        = contains-left b (first_of (option_to_list g.main.result)) (scoped g.main.body) here in
        let owned : contains b (own_blocks g.main ++ []) ≡ true
        = contains-left b (own_blocks g.main) [] (contains-right b (frame_of g.main) rest later) in
        let local = and_parts (is_some (slice_get p.blocks b)) (not (is_global (slice_get p.blocks b)))
        (tested_in (λ b. is_some (slice_get p.blocks b) && not (is_global (slice_get p.blocks b))) b
        (own_blocks g.main ++ [])
        own.1 owned) in
        ⊎_elim
        (λ global. both_ways (is_global (slice_get p.blocks b))
        (not-true (is_global (slice_get p.blocks b)) local.1) global)
        (λ framed. not_both b (frame_of g.main) rest
        (subst (λ bs. are_different bs ≡ true) (append-nil (frame_of g.main ++ rest)) own.0) framed later)
        (or_cases (is_global (slice_get p.blocks b)) (contains b (frame_of g.main)) i)

    pub not_result : (b : ℕ) → is_named p.types p.blocks (frame_of g.main) b ≡ true → is_result g.main.result b ≡ false
    not_result b h = split (is_result g.main.result b) refl
      where
        split : (c : Bool) → is_result g.main.result b ≡ c → c ≡ false
        split true e = absurd (unnamed g.main.result refl b e h)
        split false e = refl

    -- a block that is named has an unsigned type, or is an array of one
    pub named_moved : (b ty : ℕ) → place_has p.types p.blocks (frame_of g.main) (block b) ty ≡ true
        → option_map_or (is_moved_type p.types) (slice_get p.types.types ty) false ≡ true
    named_moved b ty h =
        let s = and_parts (is_named p.types p.blocks (frame_of g.main) b)
        (block_has p.types p.blocks (frame_of g.main) (slice_get p.blocks b) ty) h in
        at (slice_get p.blocks b) refl s.1 (not_result b s.0)
      where
        at : (d : Option Block) → slice_get p.blocks b ≡ d → block_has p.types p.blocks (frame_of g.main) d ty ≡ true
            → is_result g.main.result b ≡ false
            → option_map_or (is_moved_type p.types) (slice_get p.types.types ty) false ≡ true
        at None e i n = never i
        at (Some d) e i n =
            let first : 0 + b ≡ b = omega arith in
            let known = moved_block p.types g.main.result 0 b p.blocks d g.blocks e in
            let typed : d.ty ≡ ty = eqb-true d.ty ty i in
            ⊎_elim
            (λ bad. absurd (both_ways (is_result g.main.result b) n
            (subst (λ j. is_result g.main.result j ≡ true) first bad)))
            (λ good. subst (λ u. option_map_or (is_moved_type p.types) (slice_get p.types.types u) false
            ≡ true) typed good)
            (or_cases (is_result g.main.result (0 + b))
            (option_map_or (is_moved_type p.types) (slice_get p.types.types d.ty) false)
            known)

    -- the block of main's result, which is a number of type int
    pub record HasResult : Type 0 where
      pub block : ℕ
      pub is : g.main.result ≡ Some (block, Number I32)

    pub has_result : HasResult
    has_result = split g.main.result refl has_int_result
      where
        split : (r : Option (ℕ × Scalar)) → g.main.result ≡ r → is_int_result r ≡ true → HasResult
        split None e h = never h
        split (Some r) e h = record {
          block = r.0;
          is = e ∙ ap (λ (k : Scalar). Some (r.0, k)) (same_scalar r.1 (Number I32) h);
        }

    pub result_unnamed : (r : HasResult) (c : ℕ) → is_named p.types p.blocks (frame_of g.main) c ≡ true → r.block
        ≡ c → ⊥
    result_unnamed r c h e =
        unnamed (Some (r.block, Number I32)) r.is c (subst (λ d. nat_eq r.block d ≡ true) e (nat_eq-self r.block)) h
