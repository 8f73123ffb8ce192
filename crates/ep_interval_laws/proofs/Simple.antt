-- The laws of what does not depend on an operator.
use Rattle.std.specs.Prelude.{◌≡◌, ◌≢◌, ℕ, ◌+◌, ◌<◌, ◌≤◌, ℤ, ◌-ℤ◌, ◌≤ℤ◌, ◌<ℤ◌, ◌⊎◌, Bool, true, false, cond, Option}
use Rattle.std.specs.Prelude.{Some, None, IsTrue, IfSome, IsSomeAnd, refl, int_lt}
use Rattle.std.specs.Option.{option_map}
use Rattle.std.specs.Int.{int_min, int_max}
use Rattle.std.proofs.Common.{arith, ap, sym, ◌∙◌, subst, inl, inr}
use Rattle.std.proofs.lemmas.Int.{ints, clamps}
use Rattle.ep_int.specs.declared.types.IntType.{IntType}
use Rattle.ep_int.specs.Types.{least_of, greatest_of, wrapped}
use Rattle.ep_int.specs.Arith.{IsOfSomeType}
use Rattle.ep_int.proofs.Wrapping.{wrapped_in_range}
use Rattle.ep_range_laws.specs.Ranges.{IsRange, LiesIn, Encloses}
use Rattle.ep_range_laws.proofs.Comparisons.{between_true, from_between, from_lt_true, from_between_false, le_trans}
use Rattle.ep_range_laws.proofs.Comparisons.{le_self, le_antisym}
use Rattle.ep_interval_laws.specs.Ends.{nearest_number, low_limit, high_limit, in_one_stretch, wrapped_low}
use Rattle.ep_interval_laws.specs.Ends.{wrapped_high}
use Rattle.ep_interval_laws.specs.Interval.{Interval, HasNumber, interval, ends_of, between, single_of, is_within}
use Rattle.ep_interval_laws.specs.Interval.{join_of, overlap, edges_of, widening_of, rank_of, conversion_of}
use Rattle.ep_interval_laws.specs.Ranges.{lowered_kept, lowered_new, raised_kept, raised_new}
use Rattle.ep_interval_laws.proofs.Between.{same_ends, between_some, between_none, between_parts, between_holds}
use Rattle.ep_interval_laws.proofs.Ranks.{lowered_falls, lowered_stays, raised_falls, raised_stays}
use Rattle.ep_interval_laws.proofs.Wrapping.{wrapped_between}

pub has_low : (a : Interval) (z : ℤ) → HasNumber a z → a.lo ≤ℤ z
has_low a z h = (from_between a.lo z z a.hi h).0

pub has_high : (a : Interval) (z : ℤ) → HasNumber a z → z ≤ℤ a.hi
has_high a z h = (from_between a.lo z z a.hi h).1

pub has : (a : Interval) (z : ℤ) → a.lo ≤ℤ z → z ≤ℤ a.hi → HasNumber a z
has a z p q = between_true a.lo z z a.hi p q

-- ---- single numbers

pub nearest_same : (v : ℤ) → IsOfSomeType v → nearest_number v ≡ v
nearest_same v h = let p = h.low in let q = h.high in omega (arith, ints, clamps)

pub single_holds : (v : ℤ) → IsOfSomeType v → HasNumber (single_of v) v
single_holds v h = let e = nearest_same v h in has (single_of v) v (subst (λ w. w ≤ℤ v) (sym e) (le_self v)) (subst (λ w. v ≤ℤ w) (sym e) (le_self v))

pub single_only : (v z : ℤ) → IsOfSomeType v → HasNumber (single_of v) z → z ≡ v
single_only v z h k = let e = nearest_same v h in le_antisym z v (subst (λ w. z ≤ℤ w) e (has_high (single_of v) z k)) (subst (λ w. w ≤ℤ z) e (has_low (single_of v) z k))

abbrev pair : ℤ → ℤ → ℤ × ℤ
pair a b = (a, b)

pub same_pair : (a b c d : ℤ) → a ≡ c → b ≡ d → pair a b ≡ pair c d
same_pair a b c d e f = ap (λ x. pair x b) e ∙ ap (pair c) f

pub first_of_pair : (a b c d : ℤ) → pair a b ≡ pair c d → a ≡ c
first_of_pair a b c d e = ap (λ (p : ℤ × ℤ). p.0) e

pub second_of_pair : (a b c d : ℤ) → pair a b ≡ pair c d → b ≡ d
second_of_pair a b c d e = ap (λ (p : ℤ × ℤ). p.1) e

pub single_ends : (v : ℤ) → IsOfSomeType v → ends_of (single_of v) ≡ pair v v
single_ends v h = same_pair _ _ _ _ (nearest_same v h) (nearest_same v h)

pub range_encloses : (a : Interval) (z : ℤ) → HasNumber a z → LiesIn (ends_of a) z
range_encloses a z h = record { low = has_low a z h; high = has_high a z h }

pub range_single : (a : Interval) (v : ℤ) → ends_of a ≡ pair v v → HasNumber a v
range_single a v e = has a v (subst (λ w. w ≤ℤ v) (sym (first_of_pair _ _ _ _ e)) (le_self v)) (subst (λ w. v ≤ℤ w) (sym (second_of_pair _ _ _ _ e)) (le_self v))

-- ---- inclusion, join

pub within_holds : (a b : Interval) (z : ℤ) → IsTrue (is_within a b) → HasNumber a z → HasNumber b z
within_holds a b z e h =
    let p = from_between b.lo a.lo a.hi b.hi e in
    has b z (le_trans _ _ _ p.0 (has_low a z h)) (le_trans _ _ _ (has_high a z h) p.1)

pub within_range : (a b : Interval) → IsTrue (is_within a b) → Encloses (ends_of b) (ends_of a)
within_range a b e = let p = from_between b.lo a.lo a.hi b.hi e in record { low = p.0; high = p.1 }

pub join_left : (a b : Interval) (z : ℤ) → HasNumber a z → HasNumber (join_of a b) z
join_left a b z h = let p = has_low a z h in let q = has_high a z h in has (join_of a b) z (omega (arith, ints, clamps)) (omega (arith, ints, clamps))

pub join_right : (a b : Interval) (z : ℤ) → HasNumber b z → HasNumber (join_of a b) z
join_right a b z h = let p = has_low b z h in let q = has_high b z h in has (join_of a b) z (omega (arith, ints, clamps)) (omega (arith, ints, clamps))

-- ---- widening

pub widening_left : (a b : Interval) → Encloses (ends_of (widening_of a b)) (ends_of a)
widening_left a b = record { low = lowered_kept a.lo b.lo b.ends.above; high = raised_kept a.hi b.hi b.ends.below }

pub widening_right : (a b : Interval) → Encloses (ends_of (widening_of a b)) (ends_of b)
widening_right a b = record { low = lowered_new a.lo b.lo b.ends.above; high = raised_new a.hi b.hi b.ends.below }

pub enclosed_holds : (a b : Interval) (z : ℤ) → Encloses (ends_of b) (ends_of a) → HasNumber a z → HasNumber b z
enclosed_holds a b z e h = has b z (le_trans _ _ _ e.low (has_low a z h)) (le_trans _ _ _ (has_high a z h) e.high)

sum_falls_left : (l k h j : ℕ) → l < k → h ≤ j → l + h < k + j
sum_falls_left l k h j p q = omega arith

sum_falls_right : (l k h j : ℕ) → l ≤ k → h < j → l + h < k + j
sum_falls_right l k h j p q = omega arith

falls : (a b : Interval) → (b.lo <ℤ a.lo) ⊎ (a.hi <ℤ b.hi) → rank_of (widening_of a b) < rank_of a
falls a b (inl p) = sum_falls_left _ _ _ _ (lowered_falls a.lo b.lo b.ends.above p) (raised_stays a.hi b.hi b.ends.below)
falls a b (inr p) = sum_falls_right _ _ _ _ (lowered_stays a.lo b.lo b.ends.above) (raised_falls a.hi b.hi b.ends.below p)

pub widening_falls : (a b : Interval) → is_within b a ≡ false → rank_of (widening_of a b) < rank_of a
widening_falls a b e = falls a b (from_between_false a.lo b.lo b.hi a.hi e)

pub widening_changes : (a b : Interval) → widening_of a b ≢ a → rank_of (widening_of a b) < rank_of a
widening_changes a b n = by_tests (int_lt b.lo a.lo) (int_lt a.hi b.hi) refl refl
  where
    by_tests : (p q : Bool) → int_lt b.lo a.lo ≡ p → int_lt a.hi b.hi ≡ q → rank_of (widening_of a b) < rank_of a
    by_tests true q e f = falls a b (inl (from_lt_true b.lo a.lo e))
    by_tests false true e f = falls a b (inr (from_lt_true a.hi b.hi f))
    by_tests false false e f = absurd (n (same_ends _ _ _ a.lo a.hi a.ends (ap (λ t. cond t (low_limit b.lo) a.lo) e) (ap (λ t. cond t (high_limit b.hi) a.hi) f)))

-- ---- overlaps

pub overlap_holds : (a : Interval) (lo hi z : ℤ) → HasNumber a z → lo ≤ℤ z → z ≤ℤ hi → IsSomeAnd (overlap a lo hi) (λ c. HasNumber c z)
overlap_holds a lo hi z h p q =
    let l = has_low a z h in let u = has_high a z h in let r = a.ends in let x = r.above in let y = r.below in
    between_holds (int_max a.lo lo) (int_min a.hi hi) z (omega (arith, ints, clamps)) (omega (arith, ints, clamps)) (omega (arith, ints, clamps)) (omega (arith, ints, clamps))

pub edges_inside : (a : Interval) (lo hi : ℤ) → IfSome (edges_of a lo hi) (λ e. (e.0 ≤ℤ e.1) × Encloses (pair lo hi) e)
edges_inside a lo hi = of_map (overlap a lo hi) (between_parts (int_max a.lo lo) (int_min a.hi hi) (λ c. (c.lo ≤ℤ c.hi) × Encloses (pair lo hi) (ends_of c)) inside)
  where
    inside : (p : IsRange (int_max a.lo lo) (int_min a.hi hi)) → (int_max a.lo lo ≤ℤ int_min a.hi hi) × Encloses (pair lo hi) (pair (int_max a.lo lo) (int_min a.hi hi))
    inside p = (p.ordered, record { low = omega (arith, ints, clamps); high = omega (arith, ints, clamps) })

    of_map : (o : Option Interval) → IfSome o (λ c. (c.lo ≤ℤ c.hi) × Encloses (pair lo hi) (ends_of c)) → IfSome (option_map ends_of o) (λ e. (e.0 ≤ℤ e.1) × Encloses (pair lo hi) e)
    of_map None h = tt
    of_map (Some c) h = h

pub edges_enclose : (a : Interval) (lo hi z : ℤ) → HasNumber a z → LiesIn (pair lo hi) z → IsSomeAnd (edges_of a lo hi) (λ e. LiesIn e z)
edges_enclose a lo hi z h k = of_map (overlap a lo hi) (overlap_holds a lo hi z h k.low k.high)
  where
    of_map : (o : Option Interval) → IsSomeAnd o (λ c. HasNumber c z) → IsSomeAnd (option_map ends_of o) (λ e. LiesIn e z)
    of_map None h = h
    of_map (Some c) h = range_encloses c z h

pub cut_place : (a : Interval) (v : ℤ) → IfSome (overlap a v v) (λ c. ends_of c ≡ pair v v)
cut_place a v = between_parts (int_max a.lo v) (int_min a.hi v) (λ c. ends_of c ≡ pair v v) at_place
  where
    at_place : (p : IsRange (int_max a.lo v) (int_min a.hi v)) → pair (int_max a.lo v) (int_min a.hi v) ≡ pair v v
    at_place p = let o = p.ordered in same_pair _ _ _ _ (omega (arith, ints, clamps)) (omega (arith, ints, clamps))

pub cut_single : (a : Interval) (lo hi v : ℤ) → ends_of a ≡ pair v v → LiesIn (pair lo hi) v → IsSomeAnd (overlap a lo hi) (λ c. ends_of c ≡ pair v v)
cut_single a lo hi v e h =
    let p = h.low in let q = h.high in
    let f = first_of_pair _ _ _ _ e in let g = second_of_pair _ _ _ _ e in
    let r = a.ends in
    let s = of_ends a.lo a.hi lo hi v f g p q in
    let i : IsRange (int_max a.lo lo) (int_min a.hi hi) = record {
      above = let x = r.above in omega (arith, ints, clamps);
      ordered = let x = s.0 in let y = s.1 in omega (arith, ints);
      below = let x = r.below in omega (arith, ints, clamps);
    } in
    some_of (between (int_max a.lo lo) (int_min a.hi hi)) (interval (int_max a.lo lo) (int_min a.hi hi) i) (between_some _ _ i) (same_pair _ _ _ _ s.0 s.1)
  where
    of_ends : (a b lo hi v : ℤ) → a ≡ v → b ≡ v → lo ≤ℤ v → v ≤ℤ hi → (int_max a lo ≡ v) × (int_min b hi ≡ v)
    of_ends a b lo hi v e f p q = (omega (arith, ints, clamps), omega (arith, ints, clamps))

    some_of : (o : Option Interval) (c : Interval) → o ≡ Some c → ends_of c ≡ pair v v → IsSomeAnd o (λ c. ends_of c ≡ pair v v)
    some_of o c e f = subst (λ o. IsSomeAnd o (λ c. ends_of c ≡ pair v v)) (sym e) f

pub cut_single_away : (a : Interval) (lo hi v : ℤ) → ends_of a ≡ pair v v → (v <ℤ lo) ⊎ (hi <ℤ v) → overlap a lo hi ≡ None
cut_single_away a lo hi v e h = between_none _ _ (apart a.lo a.hi lo hi v (first_of_pair _ _ _ _ e) (second_of_pair _ _ _ _ e) h)
  where
    apart : (a b lo hi v : ℤ) → a ≡ v → b ≡ v → (v <ℤ lo) ⊎ (hi <ℤ v) → int_min b hi <ℤ int_max a lo
    apart a b lo hi v e f (inl h) = omega (arith, ints, clamps)
    apart a b lo hi v e f (inr h) = omega (arith, ints, clamps)

-- ---- conversion

pub wrapped_ends_hold : (t : IntType) (l h z : ℤ) → l ≤ℤ z → z ≤ℤ h → (wrapped_low t l h ≤ℤ wrapped t z) × (wrapped t z ≤ℤ wrapped_high t l h)
wrapped_ends_hold t l h z p q = by_test (in_one_stretch t l h) refl
  where
    by_test : (b : Bool) → in_one_stretch t l h ≡ b → (cond b (wrapped t l) (least_of t) ≤ℤ wrapped t z) × (wrapped t z ≤ℤ cond b (wrapped t h) (greatest_of t))
    by_test true e = wrapped_between t l h z e p q
    by_test false e = let i = wrapped_in_range t z in (i.low, i.high)

pub conversion_holds : (a : Interval) (t : IntType) (z : ℤ) → HasNumber a z → HasNumber (conversion_of a t) (wrapped t z)
conversion_holds a t z h = let p = wrapped_ends_hold t a.lo a.hi z (has_low a z h) (has_high a z h) in has (conversion_of a t) (wrapped t z) p.0 p.1

pub wrapped_ends_single : (t : IntType) (v : ℤ) → (wrapped_low t v v ≡ wrapped t v) × (wrapped_high t v v ≡ wrapped t v)
wrapped_ends_single t v =
    let x = v -ℤ wrapped t v in
    let e : in_one_stretch t v v ≡ true = between_true x x x x (le_self x) (le_self x) in
    (ap (λ b. cond b (wrapped t v) (least_of t)) e, ap (λ b. cond b (wrapped t v) (greatest_of t)) e)

pub conversion_single : (a : Interval) (t : IntType) (v : ℤ) → ends_of a ≡ pair v v → ends_of (conversion_of a t) ≡ pair (wrapped t v) (wrapped t v)
conversion_single a t v e =
    let s = wrapped_ends_single t v in
    same_pair _ _ _ _ (ap (λ (p : ℤ × ℤ). wrapped_low t p.0 p.1) e ∙ s.0) (ap (λ (p : ℤ × ℤ). wrapped_high t p.0 p.1) e ∙ s.1)
