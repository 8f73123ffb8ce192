-- The places of an access, and what is read there.
use Rattle.std.proofs.Common.{zero-mul, add-zero, ◌≡◌, ℕ, zero, suc, ◌+◌, ◌-◌, ◌*◌, ◌/◌, ◌%◌, ◌<◌, ◌≤◌, pos, Bool}
use Rattle.std.proofs.lemmas.Bool.{or_parts}
use Rattle.std.proofs.Common.{true, false, ◌||◌, nat_eq, cond, List, [], ◌∷◌, ◌++◌, map, slice_get, Option, Some}
use Rattle.std.proofs.Common.{None, IsSomeAnd, refl, sym, ap, ◌∙◌, subst, arith}
use Rattle.std.specs.List.{filter}
use Rattle.std.proofs.lemmas.Bool.{eqb-true, le-leb}
use Rattle.std.proofs.Math.Nat.{le-div_iff_mul-le, mod-eq-sub-div-mul, div-mul-le_self, suc-mul}
use Rattle.ep_int.specs.declared.types.Scalar.{Scalar}
use Rattle.ep_int.specs.declared.types.Scalar.TheVariants.{Int, Pointer}
use Rattle.ep_int.specs.Memory.{Value as Datum}
use Rattle.ep_bitslice.specs.declared.cell.Side.{Side as CellSide}
use Rattle.ep_domain.specs.Domain.{Ops, Lawful, Holds}
use Rattle.ep_pointers.specs.Value.{Target, offset_at}
use Rattle.ep_cells.specs.declared.cell.Value.{Value}
use Rattle.ep_cells.specs.Both.{value_of_both}
use Rattle.ep_cells.specs.States.{Known, AreCells, IsOfSort, HasRisingBlocks}
use Rattle.ep_cells.specs.Meaning.{Allows}
use Rattle.ep_cells.proofs.Both.{allowed_left, allowed_right, join_unites, sort_both, rising_both}
use Rattle.ep_reads.specs.Read.{read}
use Rattle.ep_reads.specs.Laws.{ReadLaws}
use Rattle.ep_evaluation.specs.Accesses.{multiples, offsets_in, held_spots, spots, reads_of, joined_from}
use Rattle.ep_evaluation.specs.Accesses.{joined_reads, lacks_value, is_unset, is_mixed}
use Rattle.ep_cell_ranges.specs.Spots.{Spot}

pub data Among {A : Type 0} (x : A) : List A → Type 0 where
  here : (xs : List A) → Among x (x ∷ xs)
  behind : (y : A) (xs : List A) → Among x xs → Among x (y ∷ xs)

among_left : {A : Type 0} (x : A) (xs ys : List A) → Among x xs → Among x (xs ++ ys)
among_left x [] ys h = elim h [ ]
among_left x (_ ∷ xs) ys (here _) = here (xs ++ ys)
among_left x (y ∷ xs) ys (behind _ _ h) = behind y (xs ++ ys) (among_left x xs ys h)

among_right : {A : Type 0} (x : A) (xs ys : List A) → Among x ys → Among x (xs ++ ys)
among_right x [] ys h = h
among_right x (y ∷ xs) ys h = behind y (xs ++ ys) (among_right x xs ys h)

among_map : {A B : Type 0} (f : A → B) (x : A) (xs : List A) → Among x xs → Among (f x) (map f xs)
among_map f x [] h = elim h [ ]
among_map f x (_ ∷ xs) (here _) = here (map f xs)
among_map f x (y ∷ xs) (behind _ _ h) = behind (f y) (map f xs) (among_map f x xs h)

among_filter : {A : Type 0} (test : A → Bool) (x : A) (xs : List A) → test x ≡ true → Among x xs
    → Among x (filter test xs)
among_filter test x [] e h = elim h [ ]
among_filter test x (_ ∷ xs) e (here _) = rw e (here (filter test xs))
among_filter test x (y ∷ xs) e (behind _ _ h) = by_test (test y) (among_filter test x xs e h)
  where
    by_test : (b : Bool) → Among x (filter test xs) → Among x (cond b (y ∷ filter test xs) (filter test xs))
    by_test true k = behind y (filter test xs) k
    by_test false k = k

-- ---- offsets

pub exact_by : (q r x : ℕ) → r ≡ 0 → r ≡ q - x → x ≤ q → q ≡ x
exact_by q r x e f g = omega (arith, e, f, g)

pub exact : (q n : ℕ) → q % n ≡ 0 → q ≡ q / n * n
exact q n e = exact_by q (q % n) (q / n * n) e (mod-eq-sub-div-mul q n) (div-mul-le_self q n)

pub next_by : (q a x y : ℕ) → y ≡ x + a → q + a + x ≡ q + y
next_by q a x y e = omega (arith, e)

pub enough : (size n q x : ℕ) → q ≡ x → q + n ≤ size → x ≤ size - n
enough size n q x e h = omega (arith, e, h)

pub no_less : (n q size : ℕ) → q + n ≤ size → n ≤ size
no_less n q size h = omega (arith, h)

pub below_next : (x y : ℕ) → x ≤ y → x < y + 1
below_next x y h = omega (arith, h)

pub from_zero : (q x : ℕ) → q ≡ x → 0 + x ≡ q
from_zero q x e = omega (arith, e)

multiple_there : (a q n j : ℕ) → j < n → Among (q + j * a) (multiples a q n)
multiple_there a q zero j h = absurd (let z : ⊥ = omega (arith, h) in z)
multiple_there a q (suc n) zero h =
    let e : q ≡ q + zero * a = sym (ap (λ x. q + x) (zero-mul a) ∙ add-zero q) in
    subst (λ x. Among x (multiples a q (suc n))) e (here (multiples a (q + a) n))
multiple_there a q (suc n) (suc j) h =
    let i = multiple_there a (q + a) n j (omega (arith, h)) in
    let e : q + a + j * a ≡ q + suc j * a = next_by q a (j * a) (suc j * a) (suc-mul j a) in
    behind q (multiples a (q + a) n) (subst (λ x. Among x (multiples a (q + a) n)) e i)

offset_there : (size n q : ℕ) → 0 < n → q + n ≤ size → q % n ≡ 0 → Among q (offsets_in size n n)
offset_there size n q h i e =
    let mul : q ≡ q / n * n = exact q n e in
    let j : q / n ≤ (size - n) / n = (le-div_iff_mul-le {x = q / n} {y = size - n} h).1
    (enough size n q (q / n * n) mul i) in
    rw (le-leb n size (no_less n q size i))
    (subst (λ x. Among x (multiples n 0 ((size - n) / n + 1))) (from_zero q (q / n * n) mul)
    (multiple_there n 0 ((size - n) / n + 1) (q / n) (below_next (q / n) ((size - n) / n) j)))

-- ---- the places of a value

module _ {N : Type 0} (D : Ops N) (sizes : List ℕ) (n : ℕ) (some : 0 < n) where
  -- a place that the value holds, inside its block and at a multiple
  pub spot_there : (ts : List (Target N)) (b q size : ℕ) → IsSomeAnd (offset_at ts b) (λ m. Holds D m (pos q))
      → slice_get sizes b ≡ Some size
      → q + n ≤ size → q % n ≡ 0 → Among (b, q) (spots D sizes n n ts)
  spot_there [] b q size h s i e = absurd h
  spot_there (t ∷ ts) b q size h s i e = by_block (nat_eq t.0 b) refl (λ k. spot_there ts b q size k s i e) h
    where
      at_target : (c : ℕ) (m : N) → c ≡ b → Holds D m (pos q)
          → Among (b, q) (held_spots D n n (c, m) (slice_get sizes c))
      at_target c m f k =
          subst (λ x. Among (b, q) (held_spots D n n (x, m) (slice_get sizes x))) (sym f)
          (rw s (among_map (λ q. (b, q)) q (filter (λ q. D.holds m (pos q)) (offsets_in size n n))
          (among_filter (λ q. D.holds m (pos q)) q (offsets_in size n n) k (offset_there size n q some i e))))

      by_block : (c : Bool) → nat_eq t.0 b ≡ c
          → (IsSomeAnd (offset_at ts b) (λ m. Holds D m (pos q)) → Among (b, q) (spots D sizes n n ts))
          → IsSomeAnd (cond c (Some t.1) (offset_at ts b)) (λ m. Holds D m (pos q))
          → Among (b, q) (held_spots D n n t (slice_get sizes t.0) ++ spots D sizes n n ts)
      by_block true f more k =
          among_left (b, q) (held_spots D n n t (slice_get sizes t.0)) (spots D sizes n n ts)
          (at_target t.0 t.1 (eqb-true t.0 b f) k)
      by_block false f more k =
          among_right (b, q) (held_spots D n n t (slice_get sizes t.0)) (spots D sizes n n ts) (more k)

-- ---- what is read at them

module _ {N : Type 0} (D : Ops N) (law : Lawful D) (reads : ReadLaws D) (k : Known N) (a : AreCells k.model k.cells)
    (s : CellSide) (w : Scalar)
  where
    pub set_at : (x : Spot) (qs : List Spot) → Among x qs → is_unset (reads_of D k s w qs) ≡ false
        → lacks_value (read D k s x.0 x.1 w) ≡ false
    set_at x [] h e = elim h [ ]
    set_at x (_ ∷ qs) (here _) e = (or_parts (lacks_value (read D k s x.0 x.1 w)) (is_unset (reads_of D k s w qs)) e).0
    set_at x (q ∷ qs) (behind _ _ h) e = set_at x qs h
        (or_parts (lacks_value (read D k s q.0 q.1 w)) (is_unset (reads_of D k s w qs)) e).1

    pub pure_at : (x : Spot) (qs : List Spot) → Among x qs → is_mixed (reads_of D k s w qs) ≡ false
        → (read D k s x.0 x.1 w).mixed ≡ false
    pure_at x [] h e = elim h [ ]
    pure_at x (_ ∷ qs) (here _) e = (or_parts (read D k s x.0 x.1 w).mixed (is_mixed (reads_of D k s w qs)) e).0
    pure_at x (q ∷ qs) (behind _ _ h) e = pure_at x qs h
        (or_parts (read D k s q.0 q.1 w).mixed (is_mixed (reads_of D k s w qs)) e).1

    sort_from : (o : Option (Value N)) → IsOfSort w o → (qs : List Spot)
        → IsOfSort w (joined_from D o (reads_of D k s w qs))
    sort_from o h [] = h
    sort_from o h (q ∷ qs) =
        sort_from (value_of_both D.join o (read D k s q.0 q.1 w).value)
        (sort_both D.join w o (read D k s q.0 q.1 w).value h (reads.fits k s q.0 q.1 w a).sort) qs

    rising_from : (o : Option (Value N)) → HasRisingBlocks o → (qs : List Spot)
        → HasRisingBlocks (joined_from D o (reads_of D k s w qs))
    rising_from o h [] = h
    rising_from o h (q ∷ qs) =
        rising_from (value_of_both D.join o (read D k s q.0 q.1 w).value)
        (rising_both D D.join (join_unites D law) o (read D k s q.0 q.1 w).value h (reads.fits k s q.0 q.1 w a).rising)
        qs

    pub reads_sort : (qs : List Spot) → IsOfSort w (joined_reads D (reads_of D k s w qs))
    reads_sort qs = sort_from None tt qs

    pub reads_rising : (qs : List Spot) → HasRisingBlocks (joined_reads D (reads_of D k s w qs))
    reads_rising qs = rising_from None tt qs

    some_value : (o : Option (Value N)) (v : Datum) → Allows D w o false (Some v) → o ≡ None → false ≡ true
    some_value o v h e = absurd (none_allows w v (subst (λ x. Allows D w x false (Some v)) e h))
      where
        none_allows : (w : Scalar) (v : Datum) → Allows D w None false (Some v) → ⊥
        none_allows (Int t) v h = let z : Some v ≡ None = h in cc
        none_allows Pointer v h = let z : Some v ≡ None = h in cc

    joined_keeps : (o : Option (Value N)) (v : Datum) → IsOfSort w o → HasRisingBlocks o → Allows D w o false (Some v)
        → (qs : List Spot)
        → Allows D w (joined_from D o (reads_of D k s w qs)) false (Some v)
    joined_keeps o v so ro h [] = h
    joined_keeps o v so ro h (q ∷ qs) =
        let r = (read D k s q.0 q.1 w).value in
        let f = reads.fits k s q.0 q.1 w a in
        joined_keeps (value_of_both D.join o r) v (sort_both D.join w o r so f.sort)
        (rising_both D D.join (join_unites D law) o r ro f.rising)
        (allowed_left D D.join (join_unites D law) w o r false false (Some v) so f.sort ro f.rising
        (some_value o v h) h) qs

    at_from : (o : Option (Value N)) → IsOfSort w o → HasRisingBlocks o → (x : Spot) (qs : List Spot) (v : Datum)
        → Among x qs
        → Allows D w (read D k s x.0 x.1 w).value false (Some v)
        → Allows D w (joined_from D o (reads_of D k s w qs)) false (Some v)
    at_from o so ro x [] v h e = elim h [ ]
    at_from o so ro x (_ ∷ qs) v (here _) e =
        let r = (read D k s x.0 x.1 w).value in
        let f = reads.fits k s x.0 x.1 w a in
        joined_keeps (value_of_both D.join o r) v (sort_both D.join w o r so f.sort)
        (rising_both D D.join (join_unites D law) o r ro f.rising)
        (allowed_right D D.join (join_unites D law) w o r false false (Some v) so f.sort ro f.rising
        (some_value r v e) e) qs
    at_from o so ro x (q ∷ qs) v (behind _ _ h) e =
        let r = (read D k s q.0 q.1 w).value in
        let f = reads.fits k s q.0 q.1 w a in
        at_from (value_of_both D.join o r) (sort_both D.join w o r so f.sort)
        (rising_both D D.join (join_unites D law) o r ro f.rising) x qs v h e

    -- a value that is read at one of the places is among all
    pub joined_at : (x : Spot) (qs : List Spot) (v : Datum) → Among x qs
        → Allows D w (read D k s x.0 x.1 w).value false (Some v)
        → Allows D w (joined_reads D (reads_of D k s w qs)) false (Some v)
    joined_at x qs v h e = at_from None tt tt x qs v h e
