-- Every program that a source means is well formed.
use Rattle.std.proofs.Common.{◌≡◌, ℕ, zero, suc, ◌+◌, ◌<◌, ◌≤◌, ◌==◌, nat_eq, nat_lt, Bool, true, false, true≢false}
use Rattle.ep_int.proofs.Basics.{append-assoc}
use Rattle.ep_well_formed_laws.proofs.Arms.{not_there}
use Rattle.std.proofs.lemmas.Bool.{not-false, or_cases}
use Rattle.std.proofs.lemmas.Option.{slice_get_within}
use Rattle.std.proofs.lemmas.Bool.{and_from, or_left, or_right}
use Rattle.std.proofs.Common.{cond, not, ◌&&◌, ◌||◌, if◌then◌else◌, List, [], ◌∷◌, ◌++◌, length, length-append, map}
use Rattle.std.proofs.Common.{position, slice_get, sum_by, option_map, option_to_list, Option, Some, None, is_some}
use Rattle.std.proofs.Common.{unwrap_or, Ok, refl, sym, ap, ◌∙◌, subst, inl, inr, arith}
use Rattle.std.specs.List.{flat_map, list_all}
use Rattle.std.proofs.lemmas.Bool.Decides.{nat_tests}
use Rattle.std.proofs.lemmas.Bool.{eqb-true}
use Rattle.ep_int.specs.Memory.{contains}
use Rattle.ep_int.specs.declared.types.Model.{Model}
use Rattle.ep_int.specs.declared.types.IntType.TheVariants.{I32}
use Rattle.ep_int.specs.declared.types.Scalar.{Scalar}
use Rattle.ep_int.specs.declared.types.Scalar.TheVariants as scalars
use Rattle.ep_ast.specs.Statement.{Item}
use Rattle.ep_layout.proofs.Options.{same_some}
use Rattle.ep_core.specs.Program as core
use Rattle.ep_core.specs.Program.{Block, Expr}
use Rattle.ep_core.specs.Exec.{callee_of, first_of, frame_of}
use Rattle.ep_core.specs.Runs.{is_global}
use Rattle.ep_core.specs.WellFormed.{are_different, are_different_leaves, are_listed, arguments_fit, block_fits}
use Rattle.ep_core.specs.WellFormed.{blocks_fit, call_fits, function_fits, functions_fit, holds_scalar, init_fits}
use Rattle.ep_core.specs.WellFormed.{is_int_result, is_main, is_well_formed, own_blocks, result_type}
use Rattle.ep_core.proofs.Sorts.{never}
use Rattle.ep_typing.specs.Types.{int_type}
use Rattle.ep_typing.specs.Env.{Signature}
use Rattle.ep_elaboration.specs.Calls.{Call, Placed, calls_of, in_items, is_recursive, one_after_another, with_function}
use Rattle.ep_elaboration.specs.Functions as functions
use Rattle.ep_elaboration.specs.Functions.{Defined, behind_result, fits_main, is_same_signature, number_of_function}
use Rattle.ep_elaboration.specs.Functions.{numbered_from, numbers_of, result_at}
use Rattle.ep_elaboration.specs.Programs.{Sofar, begun, all_in_order, main_of, numbered, order_of, place_in, call_site_of}
use Rattle.ep_elaboration.specs.Programs.{program_of}
use Rattle.ep_elaboration.specs.ProgramRules.{MeansProgram, is_program, is_sound}
use Rattle.ep_elaboration.proofs.FunctionOrder.{means_functions_defined}
use Rattle.ep_elaboration.proofs.ProgramOrder.{means_items}
use Rattle.ep_elaboration.specs.Leads.{AreInOrder, Descends, DoesCall}
use Rattle.ep_elaboration.proofs.Behind.{all_come, in_order}
use Rattle.ep_well_formed_laws.specs.Statements.{ArgumentsFit, CallFits, TakesResult}
use Rattle.ep_well_formed_laws.proofs.Tests.{needed_is, unless}
use Rattle.ep_well_formed_laws.specs.ProgramLaws.{AllAreSeen}
use Rattle.ep_well_formed_laws.proofs.Arms.{arm_walks, none_unnamed}
use Rattle.ep_well_formed_laws.proofs.Counts.{below, contains_counted, count, count_both, counted_contains, different}
use Rattle.ep_well_formed_laws.proofs.Counts.{each_below, each_passes}
use Rattle.ep_well_formed_laws.proofs.CallNames.{each_call}
use Rattle.ep_well_formed_laws.proofs.DefinedFits.{DefinedFits}
use Rattle.ep_well_formed_laws.proofs.FileSteps.{globals}
use Rattle.ep_well_formed_laws.proofs.FunctionNames.{same_signature}
use Rattle.ep_well_formed_laws.proofs.Items.{Holds, text_holds}
use Rattle.ep_well_formed_laws.proofs.Numbered.{AreThere, are_there, arguments_are, at_place, in_order_cons, numbered_has}
use Rattle.ep_well_formed_laws.proofs.Numbered.{numbered_is, placed_as, scoped_same, stmts_are, takes_is}
use Rattle.ep_well_formed_laws.proofs.Ordered.{EachOne, among, does_call, none_breaks_is, once_in_order, order_within}
use Rattle.ep_well_formed_laws.proofs.Ordered.{ranks}
use Rattle.ep_well_formed_laws.proofs.Places.{place_first, place_front, place_is, place_later}
use Rattle.ep_well_formed_laws.proofs.TextCalls.{BodyCalls, CalledIn, EachDefined, all_own, each_defined}

get_some : (bs : List Block) (k : ℕ) → k < length bs → is_some (slice_get bs k) ≡ true
get_some [] k l = absurd (omega (arith, l))
get_some (b ∷ bs) zero l = refl
get_some (b ∷ bs) (suc k) l = get_some bs k (omega (arith, l))

-- ---- sums over numbers in any order

abbrev sum_of : (ℕ → ℕ) → List ℕ → ℕ
sum_of g [] = 0
sum_of g (x ∷ xs) = g x + sum_of g xs

split_at : (x : ℕ) (ys : List ℕ) → 1 ≤ count x ys → (l : List ℕ) × (r : List ℕ) × (ys ≡ l ++ x ∷ r)
split_at x [] c = absurd (omega (arith, c))
split_at x (y ∷ ys) c = by (nat_eq x y) refl c (split_at x ys)
  where
    by : (b : Bool) → nat_eq x y ≡ b → 1 ≤ cond b 1 0 + count x ys
        → (1 ≤ count x ys → (l : List ℕ) × (r : List ℕ) × (ys ≡ l ++ x ∷ r))
        → (l : List ℕ) × (r : List ℕ) × (y ∷ ys ≡ l ++ x ∷ r)
    by true q k f = ([], ys, ap (λ (z : ℕ). z ∷ ys) (sym (eqb-true x y q)))
    by false q k f = let s = f (omega (arith, k)) in (y ∷ s.0, s.1, ap (λ (zs : List ℕ). y ∷ zs) s.2)

sum_middle : (g : ℕ → ℕ) (l r : List ℕ) (x : ℕ) → sum_of g (l ++ x ∷ r) ≡ g x + sum_of g (l ++ r)
sum_middle g [] r x = refl
sum_middle g (y ∷ l) r x = let e = sum_middle g l r x in omega (arith, e)

count_middle : (k : ℕ) (l r : List ℕ) (x : ℕ) → count k (l ++ x ∷ r) ≡ cond (nat_eq k x) 1 0 + count k (l ++ r)
count_middle k [] r x = refl
count_middle k (y ∷ l) r x = let e = count_middle k l r x in omega (arith, e)

same_sum : (g : ℕ → ℕ) (xs ys : List ℕ) → ((k : ℕ) → count k xs ≡ count k ys) → sum_of g xs ≡ sum_of g ys
same_sum g [] [] f = refl
same_sum g [] (y ∷ ys) f =
    let e : nat_eq y y ≡ true = grind (arith, nat_tests) in
    let z : 0 ≡ cond true 1 0 + count y ys = subst (λ (b : Bool). 0 ≡ cond b 1 0 + count y ys) e (f y) in absurd
    (omega (arith, z))
same_sum g (x ∷ xs) ys f =
    let e : nat_eq x x ≡ true = grind (arith, nat_tests) in
    let z : cond true 1 0 + count x xs
    ≡ count x ys = subst (λ (b : Bool). cond b 1 0 + count x xs ≡ count x ys) e (f x) in
    let s = split_at x ys (omega (arith, z)) in
    let rest = same_sum g xs (s.0 ++ s.1) (λ k.
    let a : cond (nat_eq k x) 1 0 + count k xs ≡ count k ys = f k in
    let b : count k ys ≡ count k (s.0 ++ x ∷ s.1) = ap (count k) s.2 in
    let c = count_middle k s.0 s.1 x in omega (arith, a, b, c)) in
    let m = sum_middle g s.0 s.1 x in
    let t : sum_of g ys ≡ sum_of g (s.0 ++ x ∷ s.1) = ap (sum_of g) s.2 in omega (arith, rest, m, t)

-- ---- the blocks of all functions

own_count : ℕ → Option Defined → ℕ
own_count c None = 0
own_count c (Some d) = count c (own_blocks d.function)

number_counted : (ds : List Defined) → EachDefined (λ e. 1 ≤ count e.number (numbers_of ds)) ds
number_counted [] = tt
number_counted (d ∷ ds) = (
  (let e : nat_eq d.number d.number ≡ true = grind (arith, nat_tests) in rw e (omega arith)),
  each_defined (λ e. 1 ≤ count e.number (numbers_of ds)) (λ e. 1 ≤ count e.number (numbers_of (d ∷ ds)))
      (λ e l. (let k : 1 ≤ count e.number (numbers_of ds) = l in omega (arith, k))) ds (number_counted ds),
)

found_self : (ds : List Defined) → ((k : ℕ) → count k (numbers_of ds) ≤ 1)
    → EachDefined (λ d. numbered ds d.number ≡ Some d) ds
found_self [] once = tt
found_self (d ∷ ds) once = (
  (let e : (d.number == d.number) ≡ true = grind (arith, nat_tests) in
      ap (λ (b : Bool). cond b (Some d) (numbered ds d.number)) e),
  later ds (found_self ds (λ k. let l : cond (nat_eq k d.number) 1 0 + count k (numbers_of ds)
      ≤ 1 = once k in omega (arith, l)))
      (number_counted ds),
)
  where
    other : (e : Defined) → 1 ≤ count e.number (numbers_of ds) → (d.number == e.number) ≡ false
    other e l = by (d.number == e.number) refl
      where
        by : (b : Bool) → (d.number == e.number) ≡ b → b ≡ false
        by true q =
            let same : e.number ≡ d.number = sym (eqb-true d.number e.number q) in
            let t : nat_eq e.number d.number ≡ true = grind (arith, nat_tests) in
            let k : cond true 1 0 + count e.number (numbers_of ds) ≤ 1 =
            subst (λ (b : Bool). cond b 1 0 + count e.number (numbers_of ds) ≤ 1) t (once e.number) in absurd
            (omega (arith, k, l))
        by false q = refl

    later : (es : List Defined) → EachDefined (λ e. numbered ds e.number ≡ Some e) es
        → EachDefined (λ e. 1 ≤ count e.number (numbers_of ds)) es
        → EachDefined (λ e. numbered (d ∷ ds) e.number ≡ Some e) es
    later [] h k = tt
    later (e ∷ es) h k =
        (ap (λ (b : Bool). cond b (Some d) (numbered ds e.number)) (other e k.0) ∙ h.0, later es h.1 k.1)

own_of_numbers : (c : ℕ) (ds es : List Defined) → EachDefined (λ e. numbered ds e.number ≡ Some e) es
    → sum_of (λ n. own_count c (numbered ds n)) (numbers_of es) ≡ count c (all_own es)
unfolding own_count
own_of_numbers c ds [] h = refl
own_of_numbers c ds (e ∷ es) h =
    let r = own_of_numbers c ds es h.1 in
    let f : own_count c (numbered ds e.number) ≡ count c (own_blocks e.function) = ap (own_count c) h.0 in
    let g = count_both c (own_blocks e.function) (all_own es) in omega (arith, r, f, g)

placed_own : (to : ℕ → ℕ) (f : core.Function) → own_blocks (placed_as to f) ≡ own_blocks f
placed_own to f = ap (λ (xs : List ℕ). frame_of f ++ (first_of (option_to_list f.result) ++ xs)) (scoped_same to f.body)

own_of_order : (c : ℕ) (order : List ℕ) (ds : List Defined) (ns : List ℕ) → AreThere ds ns
    → count c (flat_map own_blocks (all_in_order order ds ns)) ≡ sum_of (λ n. own_count c (numbered ds n)) ns
unfolding own_count
own_of_order c order ds [] h = refl
own_of_order c order ds (n ∷ ns) h =
    let d = h.0.0 in
    let r = own_of_order c order ds ns h.1 in
    let e : own_count c (numbered ds n) ≡ count c (own_blocks d.function) = ap (own_count c) h.0.1 in
    let f : flat_map own_blocks (all_in_order order ds (n ∷ ns))
    ≡ own_blocks (placed_as (place_in order) d.function) ++ flat_map own_blocks (all_in_order order ds ns) =
    ap (flat_map own_blocks) (in_order_cons order ds n ns d h.0.1) in
    let g = count_both c (own_blocks (placed_as (place_in order) d.function))
    (flat_map own_blocks (all_in_order order ds ns)) in
    let k : count c (own_blocks (placed_as (place_in order) d.function)) ≡ count c (own_blocks d.function) =
    ap (count c) (placed_own (place_in order) d.function) in
    let m : count c (flat_map own_blocks (all_in_order order ds (n ∷ ns)))
    ≡ count c (own_blocks (placed_as (place_in order) d.function) ++ flat_map own_blocks (all_in_order order ds ns))
    = ap (count c) f in
    omega (arith, r, e, g, k, m)

order_once : (cs : List Call) (before xs : List ℕ) → AreInOrder cs before xs → (k : ℕ) → count k xs ≤ 1
order_once cs before [] h k = omega arith
order_once cs before (x ∷ xs) h k = by (nat_eq k x) refl (order_once cs (before ++ x ∷ []) xs h.1.1 k)
  where
    at_end : (ys : List ℕ) → contains x (ys ++ x ∷ []) ≡ true
    at_end [] = or_left (nat_eq x x) false (grind (arith, nat_tests))
    at_end (y ∷ ys) = or_right (nat_eq x y) _ (at_end ys)

    by : (b : Bool) → nat_eq k x ≡ b → count k xs ≤ 1 → cond b 1 0 + count k xs ≤ 1
    by true q l = none (contains k xs) refl
      where
        none : (b : Bool) → contains k xs ≡ b → 1 + count k xs ≤ 1
        none true e =
            let same : k ≡ x = eqb-true k x q in
            absurd (once_in_order cs (before ++ x ∷ []) xs h.1.1 k
            (subst (λ (j : ℕ). contains j (before ++ x ∷ []) ≡ true) (sym same) (at_end before)) e)
        none false e = let z : count k xs ≡ 0 = not_there k xs e in omega (arith, z)
    by false q l = omega (arith, l)

-- ---- a program behind its checks

module _ (s : Sofar) (ps : List Placed) (h : Holds s ps) (main : Defined) (mains : main_of s.defined ≡ Some main)
    (bodies : EachOne (λ c. not (contains c.callee (numbers_of s.defined)) ≡ false)
    (calls_of (map (call_site_of s.env.functions) ps)))
    (acyclic : EachOne (λ c. is_recursive (calls_of (map (call_site_of s.env.functions) ps)) (length s.env.functions)
    main.number c ≡ false)
    (calls_of (map (call_site_of s.env.functions) ps)))
    (small : sum_by (λ (b : Block). b.size) s.env.blocks ≤ 65536) where
  abbrev fs : List Signature
  fs = s.env.functions

  abbrev n : ℕ
  n = length s.env.functions

  abbrev ds : List Defined
  ds = s.defined

  abbrev cs : List Call
  cs = calls_of (map (call_site_of s.env.functions) ps)

  abbrev order : List ℕ
  order = one_after_another (with_function (calls_of (map (call_site_of s.env.functions) ps)) (length s.env.functions))
      [] (numbers_of s.defined)

  abbrev program : core.Program
  program = program_of s main.number (order_of s (calls_of (map (call_site_of s.env.functions) ps)))

  abbrev Fits : Defined → Type 0
  Fits d = DefinedFits s.env.types s.env.blocks s.env.functions d

  -- ---- main

  found_main : (es : List Defined) (d : Defined) → EachDefined Fits es → main_of es ≡ Some d
      → Fits d × (functions.is_main d.function.name ≡ true)
  found_main [] d k e = absurd cc
  found_main (x ∷ es) d k e = by (functions.is_main x.function.name) refl e (found_main es d k.1)
    where
      by : (b : Bool) → functions.is_main x.function.name ≡ b → cond b (Some x) (main_of es) ≡ Some d
          → (main_of es ≡ Some d → Fits d × (functions.is_main d.function.name ≡ true))
          → Fits d × (functions.is_main d.function.name ≡ true)
      by true q r f = let same : x ≡ d = cc in subst
          (λ (z : Defined). Fits z × (functions.is_main z.function.name ≡ true)) same (k.0, q)
      by false q r f = f r

  found_number : (es : List Defined) (d : Defined) → main_of es ≡ Some d → contains d.number (numbers_of es) ≡ true
  found_number [] d e = absurd cc
  found_number (x ∷ es) d e = by (functions.is_main x.function.name) e (found_number es d)
    where
      by : (b : Bool) → cond b (Some x) (main_of es) ≡ Some d
          → (main_of es ≡ Some d → contains d.number (numbers_of es) ≡ true)
          → contains d.number (x.number ∷ numbers_of es) ≡ true
      by true r f =
          let same : x ≡ d = cc in
          subst (λ (z : Defined). contains z.number (x.number ∷ numbers_of es) ≡ true) same
          (or_left (nat_eq x.number x.number) _ (grind (arith, nat_tests)))
      by false r f = or_right (nat_eq d.number x.number) _ (f r)

  main_fits : Fits main × (functions.is_main main.function.name ≡ true)
  main_fits = found_main ds main h.fits mains

  some : 0 < n
  some = let l = slice_get_within fs main.number main_fits.0.signature main_fits.0.is in omega (arith, l)

  -- ---- the order

  ranked_calls : (rank : ℕ → ℕ) × Descends cs n rank
  ranked_calls = ranks cs n main.number (among fs ps some) some acyclic

  ordered : AreInOrder cs [] order
  ordered = in_order cs n ranked_calls.0 ranked_calls.1 (numbers_of ds)

  come : (k : ℕ) → contains k (numbers_of ds) ≡ true → contains k order ≡ true
  come k c = all_come cs n ranked_calls.0 ranked_calls.1 (numbers_of ds) k c

  with_bodies : EachOne (λ c. contains c.callee (numbers_of ds) ≡ true) cs
  with_bodies = each_so cs bodies
    where
      each_so : (xs : List Call) → EachOne (λ c. not (contains c.callee (numbers_of ds)) ≡ false) xs
          → EachOne (λ c. contains c.callee (numbers_of ds) ≡ true) xs
      each_so [] k = tt
      each_so (x ∷ xs) k = (not-false (contains x.callee (numbers_of ds)) k.0, each_so xs k.1)

  within : (k : ℕ) → contains k order ≡ true → contains k (numbers_of ds) ≡ true
  within = order_within cs (numbers_of ds) with_bodies n

  there : AreThere ds order
  there = are_there ds order within

  same_counts : (k : ℕ) → count k order ≡ count k (numbers_of ds)
  same_counts k = by (contains k order) (contains k (numbers_of ds)) refl refl
    where
      by : (a b : Bool) → contains k order ≡ a → contains k (numbers_of ds) ≡ b
          → count k order ≡ count k (numbers_of ds)
      by true true p q =
          let x : 1 ≤ count k order = contains_counted k order p in
          let y : 1 ≤ count k (numbers_of ds) = contains_counted k (numbers_of ds) q in
          let u : count k order ≤ 1 = order_once cs [] order ordered k in
          let v : count k (numbers_of ds) ≤ 1 = h.numbers.once k in omega (arith, x, y, u, v)
      by true false p q = never (sym q ∙ within k p)
      by false true p q = never (sym p ∙ come k q)
      by false false p q = not_there k order p ∙ sym (not_there k (numbers_of ds) q)

  -- ---- blocks

  own : List ℕ
  own = flat_map own_blocks (all_in_order order ds order)

  own_is : (c : ℕ) → count c own + globals s.env.blocks c ≡ below (length s.env.blocks) c
  unfolding own
  own_is c =
      let a = own_of_order c order ds order there in
      let b = same_sum (λ k. own_count c (numbered ds k)) order (numbers_of ds) same_counts in
      let e = own_of_numbers c ds ds (found_self ds h.numbers.once) in
      let f = h.lists c in omega (arith, a, b, e, f)

  below_one : (m c : ℕ) → below m c ≤ 1
  below_one m c = by (nat_lt c m)
    where
      by : (b : Bool) → cond b 1 0 ≤ 1
      by true = omega arith
      by false = omega arith

  block_listed : (c : ℕ) → 1 ≤ count c own
      → (is_some (slice_get s.env.blocks c) && not (is_global (slice_get s.env.blocks c))) ≡ true
  block_listed c l = by (nat_lt c (length s.env.blocks)) refl (is_global (slice_get s.env.blocks c)) refl (own_is c)
    where
      by : (a : Bool) → nat_lt c (length s.env.blocks) ≡ a → (g : Bool) → is_global (slice_get s.env.blocks c) ≡ g
          → count c own + globals s.env.blocks c ≡ below (length s.env.blocks) c
          → (is_some (slice_get s.env.blocks c) && not (is_global (slice_get s.env.blocks c))) ≡ true
      by true p true q e =
          let f : count c own + cond true 1 0 ≡ cond true 1 0 = (rw (p, q) at e) in absurd (omega (arith, f, l))
      by true p false q e = and_from (is_some (slice_get s.env.blocks c)) _
          (get_some s.env.blocks c (grind (arith, nat_tests))) (ap not q)
      by false p g q e =
          let f : count c own + globals s.env.blocks c
          ≡ cond false 1 0 = subst (λ (b : Bool). count c own + globals s.env.blocks c ≡ cond b 1 0) p e in
          absurd (omega (arith, f, l))

  block_owned : (c : ℕ) → c < length s.env.blocks → (is_global (slice_get s.env.blocks c) || contains c own) ≡ true
  block_owned c l = by (is_global (slice_get s.env.blocks c)) refl (own_is c)
    where
      by : (g : Bool) → is_global (slice_get s.env.blocks c) ≡ g
          → count c own + globals s.env.blocks c ≡ below (length s.env.blocks) c
          → (is_global (slice_get s.env.blocks c) || contains c own) ≡ true
      by true q e = or_left (is_global (slice_get s.env.blocks c)) _ q
      by false q e =
          let t : nat_lt c (length s.env.blocks) ≡ true = grind (arith, nat_tests) in
          let f : count c own + cond false 1 0 ≡ cond true 1 0 =
          subst (λ (b : Bool). count c own + cond false 1 0 ≡ cond b 1 0) t
          (subst (λ (b : Bool). count c own + cond b 1 0 ≡ below (length s.env.blocks) c) q e) in
          or_right (is_global (slice_get s.env.blocks c)) _ (counted_contains c own (omega (arith, f)))

  listed : are_listed s.env.blocks own ≡ true
  listed =
      and_from (are_different own && list_all
      (λ b. is_some (slice_get s.env.blocks b) && not (is_global (slice_get s.env.blocks b))) own) _
      (and_from (are_different own) _
      (different own (λ c. let e = own_is c in let f = below_one (length s.env.blocks) c in omega (arith, e, f)))
      (each_passes (λ b. is_some (slice_get s.env.blocks b) && not (is_global (slice_get s.env.blocks b))) own
      block_listed))
      (each_below (λ b. is_global (slice_get s.env.blocks b) || contains b own) (length s.env.blocks) block_owned)

  sized : blocks_fit s.env.types s.env.blocks ≡ true
  sized = and_from (list_all (block_fits s.env.types) s.env.blocks) _ (all_blocks s.env.blocks h.file.env.blocks)
      (grind (arith, nat_tests))
    where
      all_blocks : (bs : List Block) → ((b : ℕ) (x : Block) → slice_get bs b ≡ Some x → block_fits s.env.types x ≡ true)
          → list_all (block_fits s.env.types) bs ≡ true
      all_blocks [] f = refl
      all_blocks (b ∷ bs) f = and_from _ _ (f 0 b refl) (all_blocks bs (λ k x e. f (suc k) x e))

  -- ---- calls

  -- a function that has come, at its place
  record IsBefore (before : List ℕ) (k : ℕ) : Type 0 where
    defined : Defined
    fits : Fits defined
    number : defined.number ≡ k
    early : place_in order k < length before
    here : slice_get (all_in_order order ds order) (place_in order k)
        ≡ Some (placed_as (place_in order) defined.function)

  place_some : (k : ℕ) (xs : List ℕ) → contains k xs ≡ true → (j : ℕ) × (position (λ (g : ℕ). k == g) xs ≡ Some j)
  place_some k [] c = never c
  place_some k (x ∷ xs) c = by (k == x) refl (place_some k xs)
    where
      by : (b : Bool) → (k == x) ≡ b → (contains k xs ≡ true → (j : ℕ) × (position (λ (g : ℕ). k == g) xs ≡ Some j))
          → (j : ℕ) × (position (λ (g : ℕ). k == g) (x ∷ xs) ≡ Some j)
      by true q f = (0, place_first (λ (g : ℕ). k == g) x xs q)
      by false q f = elim (or_cases (nat_eq k x) (contains k xs) c) [
        | inl e ↦ absurd (true≢false (sym e ∙ q))
        | inr e ↦ let r = f e in (
          suc r.0,
          place_later (λ (g : ℕ). k == g) x xs q
              ∙ ap (λ (o : Option ℕ). option_map suc o) r.1,
        )
      ]

  come_before : (before xs : List ℕ) (k : ℕ) → before ++ xs ≡ order → contains k before ≡ true → IsBefore before k
  come_before before xs k e c =
      let j = place_some k before c in
      let at_order : position (λ (g : ℕ). k == g) order ≡ Some j.0 =
      subst (λ (zs : List ℕ). position (λ (g : ℕ). k == g) zs ≡ Some j.0) e
      (place_front (λ (g : ℕ). k == g) before xs j.0 j.1) in
      let d = at_place order ds order k j.0 there at_order in
      let place : place_in order k ≡ j.0 = ap (λ (o : Option ℕ). unwrap_or o 0) at_order in
      let p = place_is (λ (g : ℕ). k == g) before j.0 j.1 in
      record {
        defined = d.0;
        fits = numbered_has Fits ds k d.0 h.fits d.1;
        number = numbered_is ds k d.0 d.1;
        early = subst (λ (i : ℕ). i < length before) (sym place) (slice_get_within before j.0 p.0 p.1);
        here = subst (λ (i : ℕ). slice_get (all_in_order order ds order) i
            ≡ Some (placed_as (place_in order) d.0.function)) (sym place) d.2;
      }

  -- a call fits where its function has come
  call_is_fine : (before xs : List ℕ) (result : Option ℕ) (k : ℕ) (es : List Expr) (d : Option core.Dest)
      (seen : List ℕ) → before ++ xs ≡ order
      → contains k before ≡ true → CallFits s.env.types s.env.blocks fs result k es d seen
      → call_fits program (length before) result (callee_of program (length before) (place_in order k)) es d seen ≡ true
  call_is_fine before xs result k es d seen e c f =
      let b = come_before before xs k e c in
      let early : nat_lt (place_in order k) (length before) ≡ true = less b.early in
      let same : f.callee ≡ b.fits.signature =
      same_some f.callee b.fits.signature (slice_get fs k) f.is
      (subst (λ (j : ℕ). slice_get fs j ≡ Some b.fits.signature) b.number b.fits.is) in
      let arguments = arguments_are s.env.types s.env.blocks fs result b.defined.function.params
      b.fits.signature.params es seen b.fits.params
      (subst (λ (u : Signature). ArgumentsFit s.env.types s.env.blocks fs result u.params es seen) same f.arguments) in
      let takes = takes_is s.env.types s.env.blocks fs result b.defined.function.result b.fits.signature.result d
      seen b.fits.result
      (subst (λ (u : Signature). TakesResult s.env.types s.env.blocks fs result u.result d seen) same f.takes) in
      let callee : callee_of program (length before) (place_in order k)
      ≡ Some (placed_as (place_in order) b.defined.function) =
      ap (λ (v : Bool). if v then slice_get (all_in_order order ds order) (place_in order k) else None) early
      ∙ b.here in
      subst (λ (o : Option core.Function). call_fits program (length before) result o es d seen ≡ true) (sym callee)
      (and_from (arguments_fit s.env.types s.env.blocks seen b.defined.function.params es) _ arguments takes)
    where
      less : {x y : ℕ} → x < y → nat_lt x y ≡ true
      less l = grind (arith, nat_tests)

  -- ---- functions

  function_is_fine : (before xs : List ℕ) (d : Defined) → before ++ xs ≡ order → Fits d → BodyCalls fs ps d
      → ((g : ℕ) → DoesCall cs d.number g → contains g before ≡ true)
      → function_fits program (length before) (placed_as (place_in order) d.function) ≡ true
  function_is_fine before xs d e f calls come =
      let number : number_of_function fs d.function.name ≡ Some d.number =
      ap (number_of_function fs) f.name ∙ h.file.numbered.unique d.number f.signature f.is in
      let result : Option ℕ = result_type s.env.blocks d.function.result in
      let body = stmts_are program (length before) result fs (place_in order) (λ k. contains k before ≡ true)
      (λ k es dest seen c q. call_is_fine before xs result k es dest seen e c q) d.function.body
      (frame_of d.function) false
      (f.body (frame_of d.function) (λ b c. c))
      (each_call (λ k. CalledIn fs d.function.name k ps) (λ k. contains k before ≡ true)
      (λ k c. come k (does_call fs d.function.name d.number k ps number c)) d.function.body calls) in
      and_from (list_all (holds_scalar s.env.types s.env.blocks) d.function.params
      && list_all (holds_scalar s.env.types s.env.blocks) (option_to_list d.function.result)) _
      (and_from (list_all (holds_scalar s.env.types s.env.blocks) d.function.params) _ f.params_hold f.result_holds) body

  functions_are_fine : (before xs : List ℕ) → before ++ xs ≡ order → AreInOrder cs before xs → AreThere ds xs
      → functions_fit program (length before) (all_in_order order ds xs) ≡ true
  functions_are_fine before [] e o a = refl
  functions_are_fine before (x ∷ xs) e o a =
      let d = a.0.0 in
      let number = numbered_is ds x d a.0.1 in
      let first = function_is_fine before (x ∷ xs) d e (numbered_has Fits ds x d h.fits a.0.1)
      (numbered_has (BodyCalls fs ps) ds x d h.calls a.0.1)
      (λ g c. o.1.0 g (subst (λ (j : ℕ). DoesCall cs j g) number c)) in
      let rest = functions_are_fine (before ++ x ∷ []) xs (append-assoc before (x ∷ []) xs ∙ e) o.1.1 a.1 in
      let longer : length (before ++ x ∷ []) ≡ suc (length before) = length-append before (x ∷ []) ∙ omega arith in
      subst (λ (gs : List core.Function). functions_fit program (length before) gs ≡ true)
      (sym (in_order_cons order ds x xs d a.0.1))
      (and_from (function_fits program (length before) (placed_as (place_in order) d.function)) _ first
      (subst (λ (j : ℕ). functions_fit program j (all_in_order order ds xs) ≡ true) longer rest))

  -- ---- the program of main

  main_there : (d : Defined) × (numbered ds main.number ≡ Some d)
      × (slice_get (all_in_order order ds order) (place_in order main.number)
      ≡ Some (placed_as (place_in order) d.function))
  main_there =
      let c = come main.number (found_number ds main mains) in
      let j = place_some main.number order c in
      let d = at_place order ds order main.number j.0 there j.1 in
      let place : place_in order main.number ≡ j.0 = ap (λ (o : Option ℕ). unwrap_or o 0) j.1 in (
        d.0,
        d.1,
        subst (λ (i : ℕ). slice_get (all_in_order order ds order) i
            ≡ Some (placed_as (place_in order) d.0.function)) (sym place) d.2,
      )

  -- the functions of one number have one signature
  main_is : is_main (slice_get (all_in_order order ds order) (place_in order main.number)) ≡ true
  main_is =
      let d = main_there.0 in
      let fits = numbered_has Fits ds main.number d h.fits main_there.1 in
      let number = numbered_is ds main.number d main_there.1 in
      let m = main_fits.0 in
      let same : fits.signature ≡ m.signature =
      same_some fits.signature m.signature (slice_get fs main.number)
      (subst (λ (j : ℕ). slice_get fs j ≡ Some fits.signature) number fits.is) m.is in
      let name : functions.is_main m.signature.name
      ≡ true = subst (λ (t : List ℕ). functions.is_main t ≡ true) m.name main_fits.1 in
      let fine = h.file.numbered.mains main.number m.signature m.is in
      let types = same_signature m.signature (record { name = []; params = []; result = int_type I32 })
      (second (functions.is_main m.signature.name)
      (is_same_signature m.signature (record { name = []; params = []; result = int_type I32 })) fine name) in
      let params : fits.signature.params ≡ [] = ap (λ (u : Signature). u.params) same ∙ types.params in
      let result : fits.signature.result ≡ int_type I32 = ap (λ (u : Signature). u.result) same ∙ types.result in
      let no_params : d.function.params ≡ [] =
      fits.params_at ∙ ap (numbered_from (behind_result d.first fits.signature.result)) params in
      let an_int : d.function.result ≡ Some (d.first, scalars.Int I32) = fits.result_at_first
      ∙ ap (result_at d.first) result in
      let count_is : nat_eq (length d.function.params) 0
      ≡ true = ap (λ (xs : List (ℕ × Scalar)). nat_eq (length xs) 0) no_params in
      let gives : is_int_result d.function.result ≡ true = ap is_int_result an_int in
      subst (λ (o : Option core.Function). is_main o ≡ true) (sym main_there.2)
      (and_from (nat_eq (length d.function.params) 0) (is_int_result d.function.result) count_is gives)
    where
      second : (x y : Bool) → (not x || y) ≡ true → x ≡ true → y ≡ true
      second true y e q = e
      second false y e q = never q

  pub well_formed : is_well_formed program ≡ true
  unfolding own
  well_formed =
      let values = and_from (list_all (init_fits s.env.types s.env.blocks) s.values) (are_different_leaves s.values)
      h.inits h.different in
      let fine = functions_are_fine [] order refl ordered there in
      and_from (((blocks_fit s.env.types s.env.blocks
      && (list_all (init_fits s.env.types s.env.blocks) s.values && are_different_leaves s.values))
      && are_listed s.env.blocks (flat_map own_blocks (all_in_order order ds order)))
      && functions_fit program 0 (all_in_order order ds order)) _
      (and_from ((blocks_fit s.env.types s.env.blocks
      && (list_all (init_fits s.env.types s.env.blocks) s.values && are_different_leaves s.values))
      && are_listed s.env.blocks (flat_map own_blocks (all_in_order order ds order))) _
      (and_from (blocks_fit s.env.types s.env.blocks
      && (list_all (init_fits s.env.types s.env.blocks) s.values && are_different_leaves s.values)) _
      (and_from (blocks_fit s.env.types s.env.blocks) _ sized values) listed) fine) main_is

-- ---- whole programs

pub programs_fit : (m : Model) (is : List Item) (p : core.Program) → MeansProgram m is p → is_well_formed p ≡ true
programs_fit m is p (is_program s d text (is_sound main bodies acyclic shallow small a b c e f)) =
    let ps = in_items is in
    let cs = calls_of (map (call_site_of s.env.functions) ps) in
    let size = unless (nat_lt 65536 (sum_by (λ (b : Block). b.size) s.env.blocks)) 37 (Ok true) small f in
    well_formed s ps (text_holds m is s text) d (needed_is 36 (main_of s.defined) d a)
    (none_breaks_is 46 (λ (c : Call). not (contains c.callee (numbers_of s.defined))) cs bodies b)
    (none_breaks_is 35 (is_recursive cs (length s.env.functions) d.number) cs acyclic c)
    (at_most (sum_by (λ (b : Block). b.size) s.env.blocks) size.0)
  where
    at_most : (n : ℕ) → nat_lt 65536 n ≡ false → n ≤ 65536
    at_most n h = grind (arith, nat_tests)

pub all_are_seen : AllAreSeen
all_are_seen m is s gs a t e f none =
    let h = text_holds m is s (means_items (begun m) is s e) in
    let w = arm_walks s.env (numbers_of s.defined) gs a h.file h.all_named h.numbers
    (means_functions_defined s.env (numbers_of s.defined) gs a f) in
    none_unnamed a.1 w.all_named t none
