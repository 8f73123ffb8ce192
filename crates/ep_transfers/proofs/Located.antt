-- Where an access of a run of bytes lists no fault, a machine's place is among the places, and ends in its block; and
-- where a copy lists none, its two places have no byte in common.
use Rattle.std.proofs.Common.{◌≡◌, ℕ, zero, suc, ◌+◌, ◌-◌, ◌*◌, ◌/◌, ◌<◌, ◌≤◌, ℤ, pos, ◌-ℤ◌, ◌≤ℤ◌, Bool, true, false}
use Rattle.ep_int.proofs.Arithmetic.{le_fact, le_test}
use Rattle.ep_range_laws.proofs.Comparisons.{le_trans}
use Rattle.ep_evaluation.proofs.Spots.{below_next, no_less}
use Rattle.std.proofs.lemmas.Bool.{or_left, or_right}
use Rattle.std.proofs.Common.{◌&&◌, ◌||◌, not, nat_eq, nat_lt, nat_le, cond, if◌then◌else◌, List, [], ◌∷◌, ◌++◌, map}
use Rattle.std.proofs.Common.{slice_get, Option, Some, None, IsSomeAnd, refl, sym, ap, ◌∙◌, subst, arith, add-zero}
use Rattle.std.specs.Prelude.{int_le}
use Rattle.std.specs.List.{filter, list_any}
use Rattle.std.proofs.lemmas.Int.{ints}
use Rattle.std.proofs.lemmas.Bool.{eqb-true, eq-eqb, le-leb, ltb-true, ltb-false, false_from_ne_true}
use Rattle.std.proofs.Math.Nat.{le-div_iff_mul-le}
use Rattle.ep_int.specs.declared.types.Scalar.TheVariants.{Pointer}
use Rattle.ep_int.specs.Memory.{Value as Datum, int, null, pointer, overlaps}
use Rattle.ep_domain.specs.Domain.{Ops, Lawful, Holds}
use Rattle.ep_pointers.specs.Value.{Target, offset_at}
use Rattle.ep_cells.specs.declared.cell.Value.{Value}
use Rattle.ep_cells.specs.declared.cell.Value.TheVariants.{Num, Ptr}
use Rattle.ep_cells.specs.Meaning.{Allows}
use Rattle.ep_core.specs.Runs.{Side}
use Rattle.ep_equalities.specs.declared.pair.Mode.{Mode}
use Rattle.ep_equalities.specs.declared.pair.PairValue.{PairValue}
use Rattle.ep_equalities.specs.declared.pair.SideValue.{SideValue}
use Rattle.ep_alarms.specs.declared.types.AlarmKind.TheVariants.{U5, U6, U9}
use Rattle.ep_evaluation.specs.Given.{on, runs, shown_if, faults_on}
use Rattle.ep_evaluation.specs.Operators.{pointer_in}
use Rattle.ep_evaluation.specs.Accesses.{multiples, offsets_in, held_spots, spots, bounds_of}
use Rattle.ep_cell_ranges.specs.Spots.{Spot}
use Rattle.ep_evaluation.specs.Evaluation.{targets_of, is_null}
use Rattle.ep_evaluation.specs.Evaluation.{pointer as pointer_of}
use Rattle.ep_evaluation.proofs.General.{none_left, unmarked, not_shown as unshown}
use Rattle.ep_evaluation.proofs.Access.{inside_there}
use Rattle.ep_transfers.specs.Places.{range_faults}
use Rattle.ep_transfers.specs.Copies.{larger, smaller, may_be_between, ranges_overlap, target_overlaps, may_overlap}
use Rattle.ep_transfers.specs.Copies.{overlap_faults, are_apart, some_apart}
use Rattle.ep_transfers.proofs.Changes.{IsOne, here, there}

-- ---- places in lists

one_left : (x : Spot) (xs ys : List Spot) → IsOne x xs → IsOne x (xs ++ ys)
one_left x [] ys h = elim h [ ]
one_left x _ ys (here xs) = here (xs ++ ys)
one_left x _ ys (there y xs h) = there y (xs ++ ys) (one_left x xs ys h)

one_right : (x : Spot) (xs ys : List Spot) → IsOne x ys → IsOne x (xs ++ ys)
one_right x [] ys h = h
one_right x (y ∷ xs) ys h = there y (xs ++ ys) (one_right x xs ys h)

pub next_of : (q j : ℕ) → q + 1 + j ≡ q + suc j
next_of q j = omega arith

one_if : (x y : Spot) (t : Bool) (q : ℕ) (b : ℕ) (qs : List ℕ) → IsOne x (map (λ q. (b, q)) qs)
    → IsOne x (map (λ q. (b, q)) (cond t (q ∷ qs) qs))
one_if x y true q b qs h = there (b, q) (map (λ q. (b, q)) qs) h
one_if x y false q b qs h = h

ones : (test : ℕ → Bool) (b q n j : ℕ) → j < n → test (q + j) ≡ true
    → IsOne (b, q + j) (map (λ q. (b, q)) (filter test (multiples 1 q n)))
ones test b q zero j l e = absurd (let z : ⊥ = omega (arith, l) in z)
ones test b q (suc n) zero l e =
    let z : q + zero ≡ q = add-zero q in
    let f : test q ≡ true = ap test (sym z) ∙ e in
    subst (λ x. IsOne (b, x) (map (λ q. (b, q)) (filter test (multiples 1 q (suc n))))) (sym z)
    (rw f (here (map (λ q. (b, q)) (filter test (multiples 1 (q + 1) n)))))
ones test b q (suc n) (suc j) l e =
    let z : q + 1 + j ≡ q + suc j = next_of q j in
    one_if (b, q + suc j) (b, q) (test q) q b (filter test (multiples 1 (q + 1) n))
    (subst (λ x. IsOne (b, x) (map (λ q. (b, q)) (filter test (multiples 1 (q + 1) n)))) z
    (ones test b (q + 1) n j (omega (arith, l)) (ap test z ∙ e)))

fits_by : (size n q : ℕ) → q + n ≤ size → q * 1 ≤ size - n
fits_by size n q h = omega (arith, h)

pub zero_by : (q : ℕ) → 0 + q ≡ q
zero_by q = omega arith

step_there : (test : ℕ → Bool) (b size n q : ℕ) → q + n ≤ size → test q ≡ true
    → IsOne (b, q) (map (λ q. (b, q)) (filter test (offsets_in size n 1)))
step_there test b size n q h e =
    let j : q ≤ (size - n) / 1 = (le-div_iff_mul-le {x = q} {y = size - n} (omega arith)).1 (fits_by size n q h) in
    rw (le-leb n size (no_less n q size h))
    (subst (λ x. IsOne (b, x) (map (λ q. (b, q)) (filter test (multiples 1 0 ((size - n) / 1 + 1))))) (zero_by q)
    (ones test b 0 ((size - n) / 1 + 1) q (below_next q ((size - n) / 1) j) (ap test (zero_by q) ∙ e)))

-- ---- numbers

max_below : {N : Type 0} (D : Ops N) (a b x : ℤ) → a ≤ℤ x → b ≤ℤ x → larger D a b ≤ℤ x
max_below D a b x h i = by_test (int_le a b)
  where
    by_test : (t : Bool) → (if t then b else a) ≤ℤ x
    by_test true = i
    by_test false = h

min_above : {N : Type 0} (D : Ops N) (a b x : ℤ) → x ≤ℤ a → x ≤ℤ b → x ≤ℤ smaller D a b
min_above D a b x h i = by_test (int_le a b)
  where
    by_test : (t : Bool) → x ≤ℤ (if t then a else b)
    by_test true = h
    by_test false = i

only_zero : (lo hi x : ℤ) → lo ≤ℤ x → x ≤ℤ hi → pos 0 ≤ℤ lo → hi ≤ℤ pos 0 → x ≡ pos 0
only_zero lo hi x a b c d = omega (arith, ints, a, b, c, d)

between : {N : Type 0} (D : Ops N) (agg : Bool) (lo hi x : ℤ) → lo ≤ℤ x → x ≤ℤ hi
    → (agg ≡ true → x ≡ pos 0 → ⊥) → may_be_between D agg lo hi ≡ true
between D agg lo hi x h i away = rw (le_test lo hi (le_trans lo x hi h i)) (by_agg agg away)
  where
    by_tests : (s t : Bool) → int_le (pos 0) lo ≡ s → int_le hi (pos 0) ≡ t → (x ≡ pos 0 → ⊥)
        → (true && not (true && (s && t))) ≡ true
    by_tests true true e f away =
        absurd (away (only_zero lo hi x h i (le_fact (pos 0) lo e) (le_fact hi (pos 0) f)))
    by_tests true false e f away = refl
    by_tests false t e f away = refl

    by_agg : (agg : Bool) → (agg ≡ true → x ≡ pos 0 → ⊥)
        → (true && not (agg && (int_le (pos 0) lo && int_le hi (pos 0)))) ≡ true
    by_agg true away = by_tests (int_le (pos 0) lo) (int_le hi (pos 0)) refl refl (away refl)
    by_agg false away = refl

low_end : (a b q r : ℤ) → a ≤ℤ q → r ≤ℤ b → (a -ℤ b) ≤ℤ (q -ℤ r)
low_end a b q r h i = omega (arith, ints, h, i)

low_near : (n q r : ℕ) → r < q + n → (pos 1 -ℤ pos n) ≤ℤ (pos q -ℤ pos r)
low_near n q r h = omega (arith, ints, h)

high_near : (n q r : ℕ) → q < r + n → (pos q -ℤ pos r) ≤ℤ (pos n -ℤ pos 1)
high_near n q r h = omega (arith, ints, h)

no_distance : (q r : ℕ) → (pos q -ℤ pos r) ≡ pos 0 → q ≡ r
no_distance q r e = omega (arith, ints, e)

-- ---- two places

-- the tests of machines and of places are one
apart_by : (e x y x' y' s agg : Bool) → (x ≡ false → x' ≡ true) → (y ≡ false → y' ≡ true)
    → ((e && (x && y)) && not (agg && (e && s))) ≡ false → (not e || ((y' || x') || (agg && s))) ≡ true
apart_by false x y x' y' s agg f g h = refl
apart_by true false y x' true s agg f g h = refl
apart_by true false y x' false s agg f g h = rw (f refl) refl
apart_by true true false x' y' s agg f g h = rw (g refl) refl
apart_by true true true x' true s agg f g h = refl
apart_by true true true true false s agg f g h = refl
apart_by true true true false false true true f g h = refl
apart_by true true true false false true false f g h = absurd (cc)
apart_by true true true false false false true f g h = absurd (cc)
apart_by true true true false false false false f g h = absurd (cc)

overlap_by : (e x y s agg : Bool) → ((e && (x && y)) && not (agg && (e && s))) ≡ true
    → (e ≡ true) × (x ≡ true) × (y ≡ true) × (agg ≡ true → s ≡ true → ⊥)
overlap_by true true true true false h = (refl, refl, refl, λ a b. cc)
overlap_by true true true false agg h = (refl, refl, refl, λ a b. cc)
overlap_by true true true true true h = absurd (cc)
overlap_by true true false s agg h = absurd (cc)
overlap_by true false y s agg h = absurd (cc)
overlap_by false x y s agg h = absurd (cc)

-- a place that is written and one that is read have no byte in common, or are the same of an aggregate
abbrev pub AreFree : (aggregate : Bool) → (bytes : ℕ) → (to from : Spot) → Type 0
AreFree agg n q p = (overlaps q.0 q.1 p.0 p.1 n && not (agg && (nat_eq q.0 p.0 && nat_eq q.1 p.1))) ≡ false

module _ {N : Type 0} (D : Ops N) (law : Lawful D) (sizes : List ℕ) (n : ℕ) where
  -- ---- the place of a machine

  pub record IsLocated (ts : List (Target N)) (d : Datum) : Type 0 where
    pub place : Spot
    pub size : ℕ
    pub is : d ≡ pointer place.0 place.1
    pub size_is : slice_get sizes place.0 ≡ Some size
    pub inside : place.1 + n ≤ size
    pub held : IsSomeAnd (offset_at ts place.0) (λ a. Holds D a (pos place.1))
    pub among : IsOne place (spots D sizes n 1 ts)

  among_there : (ts : List (Target N)) (b q size : ℕ) → IsSomeAnd (offset_at ts b) (λ a. Holds D a (pos q))
      → slice_get sizes b ≡ Some size → q + n ≤ size → IsOne (b, q) (spots D sizes n 1 ts)
  among_there [] b q size h s i = absurd h
  among_there (t ∷ ts) b q size h s i =
      by_block (nat_eq t.0 b) refl (λ k. among_there ts b q size k s i) h
    where
      at_target : (c : ℕ) (a : N) → c ≡ b → Holds D a (pos q) → IsOne (b, q) (held_spots D n 1 (c, a)
          (slice_get sizes c))
      at_target c a f k =
          subst (λ x. IsOne (b, q) (held_spots D n 1 (x, a) (slice_get sizes x))) (sym f)
          (rw s (step_there (λ q. D.holds a (pos q)) b size n q i k))

      by_block : (c : Bool) → nat_eq t.0 b ≡ c
          → (IsSomeAnd (offset_at ts b) (λ a. Holds D a (pos q)) → IsOne (b, q) (spots D sizes n 1 ts))
          → IsSomeAnd (cond c (Some t.1) (offset_at ts b)) (λ a. Holds D a (pos q))
          → IsOne (b, q) (held_spots D n 1 t (slice_get sizes t.0) ++ spots D sizes n 1 ts)
      by_block true f more k =
          one_left (b, q) (held_spots D n 1 t (slice_get sizes t.0)) (spots D sizes n 1 ts)
          (at_target t.0 t.1 (eqb-true t.0 b f) k)
      by_block false f more k =
          one_right (b, q) (held_spots D n 1 t (slice_get sizes t.0)) (spots D sizes n 1 ts) (more k)

  located : (v : Option (Value N)) (d : Datum) → Allows D Pointer v false (Some d)
      → is_null D sizes (pointer_in v) ≡ false → bounds_of D sizes n (targets_of D sizes (pointer_in v)) ≡ None
      → IsLocated (targets_of D sizes (pointer_in v)) d
  located None d a u out = absurd (let q : Some d ≡ None = a in cc)
  located (Some (Num m)) (int z) a u out = absurd a
  located (Some (Num m)) null a u out = absurd a
  located (Some (Num m)) (pointer b q) a u out = absurd a
  located (Some (Ptr p)) (int z) a u out = absurd a
  located (Some (Ptr p)) null a u out = absurd (let q : p.null ≡ true = a in let r : p.null ≡ false = u in cc)
  located (Some (Ptr p)) (pointer b q) a u out =
      let i = inside_there D law n sizes p.targets b q out a in record {
        place = (b, q);
        size = i.0;
        is = refl;
        size_is = i.1;
        inside = i.2;
        held = a;
        among = among_there p.targets b q i.0 a i.1 i.2;
      }

  -- of a running side
  pub side_located : (mode : Mode) (a : PairValue N) → range_faults D sizes mode n a ≡ [] → (s : Side)
      → runs mode s ≡ true → (d : Datum) → Allows D Pointer (on a s).value false (Some d)
      → IsLocated (targets_of D sizes (pointer_of D (on a s))) d
  side_located mode a e s r d h =
      let y = none_left (faults_on mode U6 (λ s. shown_if (is_null D sizes (pointer_of D (on a s)))))
      (faults_on mode U5 (λ s. bounds_of D sizes n (targets_of D sizes (pointer_of D (on a s))))) e in
      located (on a s).value d h
      (unshown (is_null D sizes (pointer_of D (on a s)))
      (unmarked mode U6 (λ s. shown_if (is_null D sizes (pointer_of D (on a s)))) s y.0 r))
      (unmarked mode U5 (λ s. bounds_of D sizes n (targets_of D sizes (pointer_of D (on a s)))) s y.1 r)

  -- ---- both places of a copy

  module _ (agg : Bool) where
    near : (q r : ℕ) (a b : N) → Holds D a (pos q) → Holds D b (pos r) → q < r + n → r < q + n
        → (agg ≡ true → q ≡ r → ⊥) → ranges_overlap D agg n (D.range a) (D.range b) ≡ true
    near q r a b h i x y away =
        let s = law.range_encloses a (pos q) h in
        let t = law.range_encloses b (pos r) i in
        between D agg _ _ (pos q -ℤ pos r)
        (max_below D _ _ _ (low_end _ _ (pos q) (pos r) s.low t.high) (low_near n q r y))
        (min_above D _ _ _ (low_end (pos q) (pos r) _ _ s.high t.low) (high_near n q r x))
        (λ e f. away e (no_distance q r f))

    other_at : (us : List (Target N)) (c r : ℕ) → IsSomeAnd (offset_at us c) (λ a. Holds D a (pos r)) → (t : Target N)
        → t.0 ≡ c → ((b : N) → Holds D b (pos r) → ranges_overlap D agg n (D.range t.1) (D.range b) ≡ true)
        → target_overlaps D agg n us t ≡ true
    other_at [] c r h t e go = absurd h
    other_at (u ∷ us) c r h t e go =
        by_block (nat_eq u.0 c) refl h (λ k. other_at us c r k t e go)
      where
        by_block : (z : Bool) → nat_eq u.0 c ≡ z
            → IsSomeAnd (cond z (Some u.1) (offset_at us c)) (λ a. Holds D a (pos r))
            → (IsSomeAnd (offset_at us c) (λ a. Holds D a (pos r)) → target_overlaps D agg n us t ≡ true)
            → ((nat_eq t.0 u.0 && ranges_overlap D agg n (D.range t.1) (D.range u.1))
            || target_overlaps D agg n us t) ≡ true
        by_block true f k more =
            rw (eq-eqb t.0 u.0 (e ∙ sym (eqb-true u.0 c f)), go u.1 k) refl
        by_block false f k more = or_right _ (target_overlaps D agg n us t) (more k)

    some_target : (us : List (Target N)) (ts : List (Target N)) (b : ℕ) (q : ℕ)
        → IsSomeAnd (offset_at ts b) (λ a. Holds D a (pos q))
        → ((t : Target N) → t.0 ≡ b → Holds D t.1 (pos q) → target_overlaps D agg n us t ≡ true)
        → list_any (target_overlaps D agg n us) ts ≡ true
    some_target us [] b q h go = absurd h
    some_target us (t ∷ ts) b q h go = by_block (nat_eq t.0 b) refl h (λ k. some_target us ts b q k go)
      where
        by_block : (z : Bool) → nat_eq t.0 b ≡ z
            → IsSomeAnd (cond z (Some t.1) (offset_at ts b)) (λ a. Holds D a (pos q))
            → (IsSomeAnd (offset_at ts b) (λ a. Holds D a (pos q)) → list_any (target_overlaps D agg n us) ts ≡ true)
            → (target_overlaps D agg n us t || list_any (target_overlaps D agg n us) ts) ≡ true
        by_block true f k more = or_left _ _ (go t (eqb-true t.0 b f) k)
        by_block false f k more = or_right _ _ (more k)

    free_by : (x y : SideValue N) (d e : Datum) (a : IsLocated (targets_of D sizes (pointer_of D x)) d)
        (b : IsLocated (targets_of D sizes (pointer_of D y)) e) → may_overlap D sizes agg n x y ≡ false
        → AreFree agg n a.place b.place
    free_by x y d e a b none =
        false_from_ne_true _
        (λ h.
        let o = overlap_by _ _ _ _ _ h in
        let same : a.place.0 ≡ b.place.0 = eqb-true a.place.0 b.place.0 o.0 in
        let l = ltb-true a.place.1 (b.place.1 + n) o.1 in
        let r = ltb-true b.place.1 (a.place.1 + n) o.2 in
        let met : may_overlap D sizes agg n x y ≡ true =
        some_target (targets_of D sizes (pointer_of D y)) (targets_of D sizes (pointer_of D x)) a.place.0
        a.place.1 a.held
        (λ t f k. other_at (targets_of D sizes (pointer_of D y)) b.place.0 b.place.1 b.held t (f ∙ same)
        (λ c i. near a.place.1 b.place.1 t.1 c k i l r
        (λ g f. o.3 g (eq-eqb a.place.1 b.place.1 f)))) in
        let z : true ≡ false = sym met ∙ none in cc)

    -- of a running side
    pub side_free : (mode : Mode) (to from : PairValue N) → overlap_faults D sizes mode agg n to from ≡ [] → (s : Side)
        → runs mode s ≡ true → (d e : Datum) (a : IsLocated (targets_of D sizes (pointer_of D (on to s))) d)
        (b : IsLocated (targets_of D sizes (pointer_of D (on from s))) e) → AreFree agg n a.place b.place
    side_free mode to from q s r d e a b =
        free_by (on to s) (on from s) d e a b
        (unshown (may_overlap D sizes agg n (on to s) (on from s))
        (unmarked mode U9 (λ s. shown_if (may_overlap D sizes agg n (on to s) (on from s))) s q r))

    -- so some place that is written and some that is read are apart
    free_apart : (q p : Spot) → AreFree agg n q p → are_apart D agg n q p ≡ true
    free_apart q p h =
        apart_by (nat_eq q.0 p.0) (nat_lt q.1 (p.1 + n)) (nat_lt p.1 (q.1 + n)) (nat_le (p.1 + n) q.1)
        (nat_le (q.1 + n) p.1) (nat_eq q.1 p.1) agg
        (λ e. le-leb (p.1 + n) q.1 (ltb-false q.1 (p.1 + n) e))
        (λ e. le-leb (q.1 + n) p.1 (ltb-false p.1 (q.1 + n) e)) h

    any_from : (q p : Spot) (ps : List Spot) → IsOne p ps → are_apart D agg n q p ≡ true
        → list_any (are_apart D agg n q) ps ≡ true
    any_from q p _ (here ps) e = or_left _ _ e
    any_from q p _ (there r ps one) e = or_right _ _ (any_from q p ps one e)

    pub any_apart : (q p : Spot) (qs ps : List Spot) → IsOne q qs → IsOne p ps → AreFree agg n q p
        → some_apart D agg n qs ps ≡ true
    any_apart q p _ ps (here qs) one h = or_left _ _ (any_from q p ps one (free_apart q p h))
    any_apart q p _ ps (there r qs on) one h = or_right _ _ (any_apart q p qs ps on one h)
