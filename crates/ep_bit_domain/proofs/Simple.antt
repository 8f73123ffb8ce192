-- The laws of what does not depend on an operator.
use Rattle.std.specs.Prelude.{◌≡◌, ℤ, pos, ◌≤ℤ◌, ◌<ℤ◌, ◌⊎◌, Bool, true, false, cond, ◌||◌, not, Option, Some, None}
use Rattle.ep_int.proofs.Arithmetic.{le_fact, le_test, in_range_some_type}
use Rattle.std.specs.Prelude.{IsTrue, IfSome, IsSomeAnd, int_lt, refl}
use Rattle.std.specs.Option.{unwrap_or, option_map}
use Rattle.std.proofs.Common.{arith, ap, sym, ◌∙◌, subst, inl, inr}
use Rattle.std.proofs.lemmas.Int.{ints}
use Rattle.std.proofs.lemmas.Bool.{and_from}
use Rattle.ep_int.specs.declared.types.IntType.{IntType}
use Rattle.ep_int.specs.declared.types.IntType.TheVariants.{I64, U64}
use Rattle.ep_int.specs.declared.types.Cmp.{Cmp}
use Rattle.ep_int.specs.declared.types.Cmp.TheVariants.{Eq, Ne, Lt, Le, Gt, Ge}
use Rattle.ep_int.specs.Types.{least_of, greatest_of, InRange, wrapped, is_signed}
use Rattle.ep_int.specs.Arith.{int_eq, compares, IsOfSomeType}
use Rattle.ep_int.proofs.Wrapping.{wrapped_in_range}
use Rattle.ep_range_laws.specs.Ranges.{IsRange, LiesIn, Encloses}
use Rattle.ep_range_laws.proofs.Comparisons.{le_trans, le_antisym, lt_true, from_lt_true}
use Rattle.ep_range_laws.proofs.Comparisons.{from_lt_false}
use Rattle.ep_range_laws.proofs.Options.{weaken, default_holds}
use Rattle.ep_domain.specs.Laws.Shared.{pair, same_pair, from_eq, eq_true, nearest_same}
use Rattle.ep_bit_laws.specs.Patterns.{Has, exactly, joint, low_part}
use Rattle.ep_bit_laws.proofs.Patterns.{exact_has, exact_only, within_has, common_left, common_right, joint_has}
use Rattle.ep_bit_laws.proofs.Patterns.{joint_left, joint_right}
use Rattle.ep_bit_laws.proofs.Types.{type_has, has_low, low_part_has}
use Rattle.ep_bit_laws.proofs.Edges as edges
use Rattle.ep_bit_laws.proofs.Edges.{AreEnds}
use Rattle.ep_bit_laws.proofs.Exact.{least_has}
use Rattle.ep_bit_laws.proofs.Numbers.{number_of_bits}
use Rattle.ep_bit_domain.specs.KnownBits.{KnownBits, pattern_of, formed, holds_of, top_of, single_of, edges_of}
use Rattle.ep_bit_domain.specs.KnownBits.{range_of, cut_at, cut_of, is_within, join_of, meet_of, is_one, number_of}
use Rattle.ep_bit_domain.specs.KnownBits.{conversion_of, conversion_of_more, may_compare, twice, kept_if_compare}
use Rattle.ep_bit_domain.specs.KnownBits.{filter_of}
use Rattle.ep_bit_domain.proofs.Formed.{is_pattern_of, holds, held, formed_has, formed_inside}

-- ---- ranges

-- the least and the greatest member
pub record AreBounds (c : KnownBits) (r : ℤ × ℤ) : Type 0 where
  pub first : Has (pattern_of c) r.0
  pub last : Has (pattern_of c) r.1
  pub ordered : r.0 ≤ℤ r.1
  pub each : (z : ℤ) → Has (pattern_of c) z → LiesIn r z

pub bounds : (c : KnownBits) → AreBounds c (range_of c)
bounds c = at (edges_of c (least_of I64) (greatest_of U64))
    (edges.edges_are_ends (pattern_of c) (is_pattern_of c) (least_of I64) (greatest_of U64))
    (λ z h. edges.edges_enclose (pattern_of c) (is_pattern_of c) (least_of I64)
    (greatest_of U64) z h h.number.low h.number.high)
  where
    at : (o : Option (ℤ × ℤ)) → IfSome o (AreEnds (pattern_of c) (least_of I64) (greatest_of U64)) →
        ((z : ℤ) → Has (pattern_of c) z → IsSomeAnd o (λ e. LiesIn e z)) → AreBounds c (unwrap_or o (pos 0, pos 0))
    at None h k = absurd (k (number_of_bits c.ones) (least_has (pattern_of c) (is_pattern_of c)))
    at (Some e) h k = record { first = h.first; last = h.last; ordered = h.ordered; each = k }

pub range_ends : (c : KnownBits) → IsRange (range_of c).0 (range_of c).1
range_ends c = let b = bounds c in record {
  above = b.first.number.low;
  ordered = b.ordered;
  below =
      b.last.number.high;
}

pub range_encloses : (c : KnownBits) (z : ℤ) → IsTrue (holds_of c z) → LiesIn (range_of c) z
range_encloses c z h = (bounds c).each z (holds c z h)

pub range_single : (c : KnownBits) (v : ℤ) → range_of c ≡ pair v v → IsTrue (holds_of c v)
range_single c v e = held c v (subst (Has (pattern_of c)) (ap (λ (r : ℤ × ℤ). r.0) e) (bounds c).first)

-- of a single range each member is the number
pub only_member : (c : KnownBits) (v z : ℤ) → range_of c ≡ pair v v → Has (pattern_of c) z → z ≡ v
only_member c v z e h = let l = subst (λ r. LiesIn r z) e ((bounds c).each z h) in le_antisym z v l.high l.low

-- where each member is one number, that is the range
pub range_from : (c : KnownBits) (v : ℤ) → ((z : ℤ) → Has (pattern_of c) z → z ≡ v) → range_of c ≡ pair v v
range_from c v f = let b = bounds c in same_pair _ _ _ _ (f _ b.first) (f _ b.last)

-- a value that has all members of another has its range
pub larger_range : (a b : KnownBits) → ((z : ℤ) → Has (pattern_of a) z → Has (pattern_of b) z) → Encloses (range_of b)
    (range_of a)
larger_range a b f = let r = bounds a in let s = bounds b in record {
  low = (s.each _ (f _ r.first)).low;
  high =
      (s.each _ (f _ r.last)).high;
}

-- ---- single numbers

pub top_holds : (t : IntType) (z : ℤ) → InRange t z → IsTrue (holds_of (top_of t) z)
top_holds t z h = held (top_of t) z (type_has t z h)

pub single_pattern : (v : ℤ) → IsOfSomeType v → pattern_of (single_of v) ≡ exactly v
single_pattern v h = ap exactly (nearest_same v h)

pub single_has : (v : ℤ) → IsOfSomeType v → Has (pattern_of (single_of v)) v
single_has v h = subst (λ p. Has p v) (sym (single_pattern v h)) (exact_has v h)

pub single_holds : (v : ℤ) → IsOfSomeType v → IsTrue (holds_of (single_of v) v)
single_holds v h = held (single_of v) v (single_has v h)

single_member : (v z : ℤ) → IsOfSomeType v → Has (pattern_of (single_of v)) z → z ≡ v
single_member v z h k = exact_only v z h (subst (λ p. Has p z) (single_pattern v h) k)

pub single_only : (v z : ℤ) → IsOfSomeType v → IsTrue (holds_of (single_of v) z) → z ≡ v
single_only v z h k = single_member v z h (holds (single_of v) z k)

pub single_range : (v : ℤ) → IsOfSomeType v → range_of (single_of v) ≡ pair v v
single_range v h = range_from (single_of v) v (λ z k. single_member v z h k)

pub one_range : (c : KnownBits) → is_one c ≡ true → range_of c ≡ pair (number_of c) (number_of c)
one_range c e = same_pair _ _ _ _ refl (sym (from_eq (range_of c).0 (range_of c).1 e))

pub is_one_from : (c : KnownBits) (v : ℤ) → range_of c ≡ pair v v → (is_one c ≡ true) × (number_of c ≡ v)
is_one_from c v e = let f = ap (λ (r : ℤ × ℤ). r.0) e in let g = ap (λ (r : ℤ × ℤ). r.1) e in
    (eq_true (range_of c).0 (range_of c).1 (f ∙ sym g), f)

pub number_of_some_type : (c : KnownBits) → IsOfSomeType (number_of c)
number_of_some_type c = (bounds c).first.number

-- ---- inclusion and joins

pub within_holds : (a b : KnownBits) (z : ℤ) → IsTrue (is_within a b) → IsTrue (holds_of a z) → IsTrue (holds_of b z)
within_holds a b z h k = held b z (within_has (pattern_of a) (pattern_of b) z h (holds a z k))

pub within_range : (a b : KnownBits) → IsTrue (is_within a b) → Encloses (range_of b) (range_of a)
within_range a b h = larger_range a b (λ z k. within_has (pattern_of a) (pattern_of b) z h k)

pub join_left : (a b : KnownBits) (z : ℤ) → IsTrue (holds_of a z) → IsTrue (holds_of (join_of a b) z)
join_left a b z h = held (join_of a b) z (common_left (pattern_of a) (pattern_of b) z (holds a z h))

pub join_right : (a b : KnownBits) (z : ℤ) → IsTrue (holds_of b z) → IsTrue (holds_of (join_of a b) z)
join_right a b z h = held (join_of a b) z (common_right (pattern_of a) (pattern_of b) z (holds b z h))

pub join_range_left : (a b : KnownBits) → Encloses (range_of (join_of a b)) (range_of a)
join_range_left a b = larger_range a (join_of a b) (λ z k. common_left (pattern_of a) (pattern_of b) z k)

pub join_range_right : (a b : KnownBits) → Encloses (range_of (join_of a b)) (range_of b)
join_range_right a b = larger_range b (join_of a b) (λ z k. common_right (pattern_of a) (pattern_of b) z k)

-- ---- meets

pub meet_has : (a b : KnownBits) (z : ℤ) → Has (pattern_of a) z → Has (pattern_of b) z → IsSomeAnd (meet_of a b)
    (λ c. Has (pattern_of c) z)
meet_has a b z h k = formed_has (joint (pattern_of a) (pattern_of b)) z
    (joint_has (pattern_of a) (pattern_of b) z (is_pattern_of a) (is_pattern_of b) h k)

pub held_some : (o : Option KnownBits) (z : ℤ) → IsSomeAnd o (λ c. Has (pattern_of c) z) → IsSomeAnd o
    (λ c. IsTrue (holds_of c z))
held_some o z h = weaken (λ c. Has (pattern_of c) z) (λ c. IsTrue (holds_of c z)) o h (λ c k. held c z k)

pub meet_holds : (a b : KnownBits) (z : ℤ) → IsTrue (holds_of a z) → IsTrue (holds_of b z) → IsSomeAnd (meet_of a b)
    (λ c. IsTrue (holds_of c z))
meet_holds a b z h k = held_some (meet_of a b) z (meet_has a b z (holds a z h) (holds b z k))

-- ---- edges and cuts

pub edges_inside : (c : KnownBits) (lo hi : ℤ) → IfSome (edges_of c lo hi)
    (λ e. (e.0 ≤ℤ e.1) × Encloses (pair lo hi) e)
edges_inside c lo hi = at (edges_of c lo hi) (edges.edges_are_ends (pattern_of c) (is_pattern_of c) lo hi)
  where
    at : (o : Option (ℤ × ℤ)) → IfSome o (AreEnds (pattern_of c) lo hi) → IfSome o
        (λ e. (e.0 ≤ℤ e.1) × Encloses (pair lo hi) e)
    at None h = tt
    at (Some e) h = (h.ordered, record { low = h.low; high = h.high })

pub edges_enclose : (c : KnownBits) (lo hi z : ℤ) → IsTrue (holds_of c z) → LiesIn (pair lo hi) z → IsSomeAnd
    (edges_of c lo hi) (λ e. LiesIn e z)
edges_enclose c lo hi z h k = edges.edges_enclose (pattern_of c) (is_pattern_of c) lo hi z (holds c z h) k.low k.high

cut_has : (c : KnownBits) (lo hi z : ℤ) → Has (pattern_of c) z → LiesIn (pair lo hi) z → IsSomeAnd (cut_of c lo hi)
    (λ d. Has (pattern_of d) z)
cut_has c lo hi z h k = at (edges_of c lo hi) (edges.edges_are_ends (pattern_of c) (is_pattern_of c) lo hi)
    (edges.edges_enclose (pattern_of c) (is_pattern_of c) lo hi z h k.low k.high)
  where
    at : (o : Option (ℤ × ℤ)) → IfSome o (AreEnds (pattern_of c) lo hi) → IsSomeAnd o (λ e. LiesIn e z) → IsSomeAnd
        (cut_at c o) (λ d. Has (pattern_of d) z)
    at None i j = absurd j
    at (Some e) i j = by (int_eq e.0 e.1) refl
      where
        by : (b : Bool) → int_eq e.0 e.1 ≡ b → Has (pattern_of (cond b (single_of e.0) c)) z
        by true f =
            let g = from_eq e.0 e.1 f in
            let m : e.0 ≡ z = le_antisym e.0 z j.low (subst (λ y. z ≤ℤ y) (sym g) j.high) in
            subst (Has (pattern_of (single_of e.0))) m (single_has e.0 i.first.number)
        by false f = h

pub cut_holds : (c : KnownBits) (lo hi z : ℤ) → IsTrue (holds_of c z) → LiesIn (pair lo hi) z → IsSomeAnd
    (cut_of c lo hi) (λ d. IsTrue (holds_of d z))
cut_holds c lo hi z h k = held_some (cut_of c lo hi) z (cut_has c lo hi z (holds c z h) k)

-- of equal edges the cut is a single number
cut_one : (c : KnownBits) (lo hi v : ℤ) (e : ℤ × ℤ) → AreEnds (pattern_of c) lo hi e → e.0 ≡ v → e.1 ≡ v → range_of
    (cond (int_eq e.0 e.1) (single_of e.0) c) ≡ pair v v
cut_one c lo hi v e h f g = by (int_eq e.0 e.1) (eq_true e.0 e.1 (f ∙ sym g))
  where
    by : (b : Bool) → b ≡ true → range_of (cond b (single_of e.0) c) ≡ pair v v
    by true i = single_range e.0 h.first.number ∙ same_pair _ _ _ _ f f
    by false i = absurd cc

pub cut_place : (c : KnownBits) (v : ℤ) → IfSome (cut_of c v v) (λ d. range_of d ≡ pair v v)
cut_place c v = at (edges_of c v v) (edges.edges_are_ends (pattern_of c) (is_pattern_of c) v v)
  where
    at : (o : Option (ℤ × ℤ)) → IfSome o (AreEnds (pattern_of c) v v) → IfSome (cut_at c o)
        (λ d. range_of d ≡ pair v v)
    at None h = tt
    at (Some e) h = cut_one c v v v e h (le_antisym e.0 v (le_trans e.0 e.1 v h.ordered h.high) h.low)
        (le_antisym e.1 v h.high (le_trans v e.0 e.1 h.low h.ordered))

pub cut_single : (c : KnownBits) (lo hi v : ℤ) → range_of c ≡ pair v v → LiesIn (pair lo hi) v → IsSomeAnd
    (cut_of c lo hi) (λ d. range_of d ≡ pair v v)
cut_single c lo hi v e k = at (edges_of c lo hi) (edges.edges_are_ends (pattern_of c) (is_pattern_of c) lo hi)
    (edges.edges_enclose (pattern_of c) (is_pattern_of c) lo hi v (holds c v (range_single c v e)) k.low k.high)
  where
    at : (o : Option (ℤ × ℤ)) → IfSome o (AreEnds (pattern_of c) lo hi) → IsSomeAnd o (λ f. LiesIn f v) → IsSomeAnd
        (cut_at c o) (λ d. range_of d ≡ pair v v)
    at None i j = absurd j
    at (Some f) i j = cut_one c lo hi v f i (only_member c v f.0 e i.first) (only_member c v f.1 e i.last)

pub cut_single_away : (c : KnownBits) (lo hi v : ℤ) → range_of c ≡ pair v v → (v <ℤ lo) ⊎ (hi <ℤ v)
    → cut_of c lo hi ≡ None
cut_single_away c lo hi v e k = at (edges_of c lo hi) (edges.edges_are_ends (pattern_of c) (is_pattern_of c) lo hi)
  where
    away : (w f l : ℤ) → lo ≤ℤ f → f ≤ℤ l → l ≤ℤ hi → f ≡ w → l ≡ w → (w <ℤ lo) ⊎ (hi <ℤ w) → ⊥
    away w f l p q r g h (inl m) = absurd (omega (arith, ints))
    away w f l p q r g h (inr m) = absurd (omega (arith, ints))

    at : (o : Option (ℤ × ℤ)) → IfSome o (AreEnds (pattern_of c) lo hi) → cut_at c o ≡ None
    at None h = refl
    at (Some f) h = absurd (away v f.0 f.1 h.low h.ordered h.high (only_member c v f.0 e h.first)
        (only_member c v f.1 e h.last) k)

-- ---- conversion

converted_more : (c : KnownBits) (t : IntType) (z : ℤ) → Has (pattern_of c) z → Has
    (pattern_of (conversion_of_more c t)) (wrapped t z)
converted_more c t z h = at (is_signed t) refl
  where
    at : (b : Bool) → is_signed t ≡ b → Has (pattern_of
        (cond b (top_of t) (unwrap_or (formed (low_part t (pattern_of c))) (top_of t)))) (wrapped t z)
    at true e = type_has t (wrapped t z) (wrapped_in_range t z)
    at false e = default_holds (λ d. Has (pattern_of d) (wrapped t z)) (formed (low_part t (pattern_of c))) (top_of t)
        (formed_has (low_part t (pattern_of c)) (wrapped t z)
        (low_part_has t (pattern_of c) z e (has_low _ (pattern_of c) z h)))

converted_type : (t : IntType) (z : ℤ) → IsOfSomeType (wrapped t z)
converted_type t z = in_range_some_type t (wrapped t z) (wrapped_in_range t z)

pub conversion_has : (c : KnownBits) (t : IntType) (z : ℤ) → Has (pattern_of c) z → Has
    (pattern_of (conversion_of c t)) (wrapped t z)
conversion_has c t z h = at (is_one c) refl
  where
    at : (b : Bool) → is_one c ≡ b → Has (pattern_of
        (cond b (single_of (wrapped t (number_of c))) (conversion_of_more c t))) (wrapped t z)
    at true e = subst (λ v. Has (pattern_of (single_of (wrapped t (number_of c)))) (wrapped t v))
        (sym (only_member c (number_of c) z (one_range c e) h))
        (single_has (wrapped t (number_of c)) (converted_type t (number_of c)))
    at false e = converted_more c t z h

pub conversion_holds : (c : KnownBits) (t : IntType) (z : ℤ) → IsTrue (holds_of c z) → IsTrue
    (holds_of (conversion_of c t) (wrapped t z))
conversion_holds c t z h = held (conversion_of c t) (wrapped t z) (conversion_has c t z (holds c z h))

pub conversion_single : (c : KnownBits) (t : IntType) (v : ℤ) → range_of c ≡ pair v v → range_of
    (conversion_of c t) ≡ pair (wrapped t v) (wrapped t v)
conversion_single c t v e = at (is_one c) (is_one_from c v e).0
  where
    at : (b : Bool) → b ≡ true → range_of (cond b (single_of (wrapped t (number_of c)))
        (conversion_of_more c t)) ≡ pair (wrapped t v) (wrapped t v)
    at true f = single_range (wrapped t (number_of c)) (converted_type t (number_of c)) ∙ ap
        (λ n. pair (wrapped t n) (wrapped t n)) (is_one_from c v e).1
    at false f = absurd cc

-- ---- comparison

-- numbers of ranges that compare so
pub compared : (c : Cmp) (r s : ℤ × ℤ) (x y : ℤ) → LiesIn r x → LiesIn s y → compares c x y ≡ true
    → may_compare c r s ≡ true
compared Eq r s x y h k e =
    let i = from_eq x y e in let a = h.low in let b = h.high in let d = k.low in let f = k.high in
    and_from _ _ (le_test r.0 s.1 (omega (arith, ints))) (le_test s.0 r.1 (omega (arith, ints)))
compared Ne r s x y h k e = at (int_lt r.0 s.1) (int_lt s.0 r.1) refl refl
  where
    same : (b l : ℤ) → s.1 ≤ℤ r.0 → r.1 ≤ℤ s.0 → x ≡ y
    same b l f g = let p = h.low in let q = h.high in let m = k.low in let n = k.high in omega (arith, ints)

    differ : x ≡ y → ⊥
    differ i = clash (int_eq x y) (eq_true x y i) e
      where
        clash : (b : Bool) → b ≡ true → not b ≡ true → ⊥
        clash true f g = absurd cc
        clash false f g = absurd cc

    at : (a b : Bool) → int_lt r.0 s.1 ≡ a → int_lt s.0 r.1 ≡ b → (a || b) ≡ true
    at true b f g = refl
    at false true f g = refl
    at false false f g = absurd (differ (same r.0 s.0 (from_lt_false r.0 s.1 f) (from_lt_false s.0 r.1 g)))
compared Lt r s x y h k e = let i = from_lt_true x y e in let a = h.low in let b = k.high in lt_true r.0 s.1
    (omega (arith, ints))
compared Le r s x y h k e = let i = le_fact x y e in let a = h.low in let b = k.high in le_test r.0 s.1
    (omega (arith, ints))
compared Gt r s x y h k e = let i = from_lt_true y x e in let a = h.high in let b = k.low in lt_true s.0 r.1
    (omega (arith, ints))
compared Ge r s x y h k e = let i = le_fact y x e in let a = h.high in let b = k.low in le_test s.0 r.1
    (omega (arith, ints))

abbrev pub HaveBoth : ℤ → ℤ → KnownBits × KnownBits → Type 0
HaveBoth x y p = IsTrue (holds_of p.0 x) × IsTrue (holds_of p.1 y)

kept : (c : Cmp) (a b : KnownBits) (x y : ℤ) → compares c x y ≡ true → IsTrue (holds_of a x) → IsTrue (holds_of b y)
    → IsSomeAnd (kept_if_compare c a b) (HaveBoth x y)
kept c a b x y e h k = at (may_compare c (range_of a) (range_of b))
    (compared c (range_of a) (range_of b) x y (range_encloses a x h) (range_encloses b y k) e)
  where
    at : (t : Bool) → t ≡ true → IsSomeAnd (cond t (Some (a, b)) None) (HaveBoth x y)
    at true f = (h, k)
    at false f = absurd cc

pub filter_holds : (c : Cmp) (a b : KnownBits) (x y : ℤ) → compares c x y ≡ true → IsTrue (holds_of a x) → IsTrue
    (holds_of b y) → IsSomeAnd (filter_of c a b) (HaveBoth x y)
filter_holds Eq a b x y e h k = at (meet_of a b) (meet_holds a b x h
    (subst (λ z. IsTrue (holds_of b z)) (sym (from_eq x y e)) k))
  where
    at : (o : Option KnownBits) → IsSomeAnd o (λ c. IsTrue (holds_of c x)) → IsSomeAnd (option_map twice o)
        (HaveBoth x y)
    at None i = absurd i
    at (Some c) i = (i, subst (λ z. IsTrue (holds_of c z)) (from_eq x y e) i)
filter_holds Ne a b x y e h k = kept Ne a b x y e h k
filter_holds Lt a b x y e h k = kept Lt a b x y e h k
filter_holds Le a b x y e h k = kept Le a b x y e h k
filter_holds Gt a b x y e h k = kept Gt a b x y e h k
filter_holds Ge a b x y e h k = kept Ge a b x y e h k

ne_same : (x y : ℤ) → (int_lt x y || int_lt y x) ≡ compares Ne x y
ne_same x y = grind (arith, ints)

not_kept : (c : Cmp) (a b : KnownBits) (x y : ℤ) → may_compare c (pair x x) (pair y y) ≡ false → range_of a ≡ pair x x
    → range_of b ≡ pair y y → kept_if_compare c a b ≡ None
not_kept c a b x y e f g = at (may_compare c (range_of a) (range_of b))
    (ap (λ r. may_compare c r (range_of b)) f ∙ ap (may_compare c (pair x x)) g ∙ e)
  where
    at : (t : Bool) → t ≡ false → ◌≡◌ {A = Option (KnownBits × KnownBits)} (cond t (Some (a, b)) None) None
    at true h = absurd cc
    at false h = refl

pub filter_single : (c : Cmp) (a b : KnownBits) (x y : ℤ) → compares c x y ≡ false → range_of a ≡ pair x x
    → range_of b ≡ pair y y → filter_of c a b ≡ None
filter_single Eq a b x y e f g = at (meet_of a b) (formed_inside (joint (pattern_of a) (pattern_of b)))
  where
    clash : int_eq x y ≡ true → int_eq x y ≡ false → ⊥
    clash h k = absurd cc

    at : (o : Option KnownBits) → IfSome o (λ c. (z : ℤ) → Has (pattern_of c) z → Has
        (joint (pattern_of a) (pattern_of b)) z) → option_map twice o ≡ None
    at None h = refl
    at (Some c) h =
        let m = h (range_of c).0 (bounds c).first in
        let p = only_member a x (range_of c).0 f (joint_left (pattern_of a) (pattern_of b) (range_of c).0 m) in
        let q = only_member b y (range_of c).0 g (joint_right (pattern_of a) (pattern_of b) (range_of c).0 m) in
        absurd (clash (eq_true x y (sym p ∙ q)) e)
filter_single Ne a b x y e f g = not_kept Ne a b x y (ne_same x y ∙ e) f g
filter_single Lt a b x y e f g = not_kept Lt a b x y e f g
filter_single Le a b x y e f g = not_kept Le a b x y e f g
filter_single Gt a b x y e f g = not_kept Gt a b x y e f g
filter_single Ge a b x y e f g = not_kept Ge a b x y e f g
