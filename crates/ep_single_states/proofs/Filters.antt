-- Of two pairs of single numbers that compare so a filter leaves each as it is: so do the filters of both parts.
use Rattle.std.proofs.Common.{◌≡◌, ℤ, pos, ◌+ℤ◌, ◌-ℤ◌, ◌≤ℤ◌, ◌⊎◌, inl, inr, Bool, true, false, Option, Some, None}
use Rattle.ep_straight_laws.proofs.Meets.{lower, upper}
use Rattle.std.proofs.Common.{option_map, if◌then◌else◌, IfSome, IsSomeAnd, refl, sym, ap, ◌∙◌, arith}
use Rattle.std.specs.Option.{option_zip}
use Rattle.std.specs.Int.{int_min, int_max}
use Rattle.std.proofs.lemmas.Int.{ints, clamps}
use Rattle.ep_int.specs.declared.types.Cmp.{Cmp}
use Rattle.ep_int.specs.declared.types.Cmp.TheVariants.{Eq, Ne, Lt, Le, Gt, Ge}
use Rattle.ep_int.specs.Arith.{compares, int_eq}
use Rattle.ep_domain.specs.Domain.{Lawful}
use Rattle.ep_domain.specs.Common.{common_part}
use Rattle.ep_domain.specs.declared.num.Num.{Ghosts}
use Rattle.ep_domain.specs.declared.pair.Pair.{Pair}
use Rattle.ep_domain.specs.Pairs.{range_of, narrowed, narrowed_pair, pairs_of, filter_between, filter_of}
use Rattle.ep_domain.specs.Laws.Shared.{pair, same_pair, from_eq}
use Rattle.ep_domain.specs.Laws.Narrowed.{BothSingle, single_holds, single_range, narrowed_single}
use Rattle.ep_interval_laws.specs.Ends.{is_range, low_apart, high_apart}
use Rattle.ep_interval_laws.specs.Ranges.{is_range_true}
use Rattle.ep_interval_laws.specs.Interval.{Interval, between, between_at, apart_from, ends_of}
use Rattle.ep_interval_laws.specs.Interval as intervals
use Rattle.ep_congruence_domain.specs.Congruence.{Congruence, are_apart, kept_unless, twice}
use Rattle.ep_congruence_domain.specs.Congruence as congruences
use Rattle.ep_straight_laws.proofs.Meets.{meeting_range}

-- of two values that may be there
zipped : {A B : Type 0} (P : A → Type 0) (Q : B → Type 0) (o : Option A) (k : Option B) → IfSome o P → IfSome k Q
    → IfSome (option_zip o k) (λ r. P r.0 × Q r.1)
zipped P Q None k h i = tt
zipped P Q (Some a) None h i = tt
zipped P Q (Some a) (Some b) h i = (h, i)

-- ---- intervals

-- an interval between two ends, both inside those of a single one
abbrev IsAt : ℤ → Interval → Type 0
IsAt x c = ends_of c ≡ pair x x

inside : (a : Interval) (x lo hi : ℤ) → IsAt x a → a.lo ≤ℤ lo → hi ≤ℤ a.hi → IfSome (between lo hi) (IsAt x)
inside a x lo hi e l h = by_test (is_range lo hi) refl
  where
    one : (b c p q : ℤ) → b ≡ x → c ≡ x → b ≤ℤ p → q ≤ℤ c → p ≤ℤ q → pair p q ≡ pair x x
    one b c p q i j k m n = same_pair _ _ _ _ (omega (arith, ints, i, j, k, m, n)) (omega (arith, ints, i, j, k, m, n))

    by_test : (t : Bool) (d : is_range lo hi ≡ t) → IfSome (between_at lo hi t d) (IsAt x)
    by_test false d = tt
    by_test true d =
        one a.lo a.hi lo hi (ap (λ r. r.0) e) (ap (λ r. r.1) e) l h (is_range_true lo hi d).ordered

overlap_at : (a : Interval) (x lo hi : ℤ) → IsAt x a → IfSome (intervals.overlap a lo hi) (IsAt x)
overlap_at a x lo hi e = inside a x (int_max a.lo lo) (int_min a.hi hi) e (lower a.lo lo) (upper a.hi hi)

apart_low : (l v : ℤ) → l ≤ℤ low_apart l v
apart_low l v = by_test (int_eq l v)
  where
    by_test : (t : Bool) → l ≤ℤ (if t then l +ℤ pos 1 else l)
    by_test true = omega (arith, ints)
    by_test false = omega (arith, ints)

apart_high : (h v : ℤ) → high_apart h v ≤ℤ h
apart_high h v = by_test (int_eq h v)
  where
    by_test : (t : Bool) → (if t then h -ℤ pos 1 else h) ≤ℤ h
    by_test true = omega (arith, ints)
    by_test false = omega (arith, ints)

apart_at : (a b : Interval) (x : ℤ) → IsAt x a → IfSome (apart_from a b) (IsAt x)
apart_at a b x e = by_test (int_eq b.lo b.hi)
  where
    by_test : (t : Bool)
        → IfSome (if t then between (low_apart a.lo b.lo) (high_apart a.hi b.lo) else Some a) (IsAt x)
    by_test true =
        inside a x (low_apart a.lo b.lo) (high_apart a.hi b.lo) e (apart_low a.lo b.lo) (apart_high a.hi b.lo)
    by_test false = e

pub intervals_kept : (c : Cmp) (a b : Interval) (x y : ℤ) → compares c x y ≡ true → IsAt x a → IsAt y b
    → IfSome (intervals.filter_of c a b) (λ r. IsAt x r.0 × IsAt y r.1)
intervals_kept Eq a b x y h e d =
    zipped (IsAt x) (IsAt y) (intervals.meet_of a b) (intervals.meet_of b a) (overlap_at a x b.lo b.hi e)
    (overlap_at b y a.lo a.hi d)
intervals_kept Ne a b x y h e d =
    zipped (IsAt x) (IsAt y) (apart_from a b) (apart_from b a) (apart_at a b x e) (apart_at b a y d)
intervals_kept Lt a b x y h e d =
    zipped (IsAt x) (IsAt y) (intervals.overlap a a.lo (b.hi -ℤ pos 1)) (intervals.overlap b (a.lo +ℤ pos 1) b.hi)
    (overlap_at a x a.lo (b.hi -ℤ pos 1) e) (overlap_at b y (a.lo +ℤ pos 1) b.hi d)
intervals_kept Le a b x y h e d =
    zipped (IsAt x) (IsAt y) (intervals.overlap a a.lo b.hi) (intervals.overlap b a.lo b.hi)
    (overlap_at a x a.lo b.hi e) (overlap_at b y a.lo b.hi d)
intervals_kept Gt a b x y h e d =
    zipped (IsAt x) (IsAt y) (intervals.overlap a (b.lo +ℤ pos 1) a.hi) (intervals.overlap b b.lo (a.hi -ℤ pos 1))
    (overlap_at a x (b.lo +ℤ pos 1) a.hi e) (overlap_at b y b.lo (a.hi -ℤ pos 1) d)
intervals_kept Ge a b x y h e d =
    zipped (IsAt x) (IsAt y) (intervals.overlap a b.lo a.hi) (intervals.overlap b b.lo a.hi)
    (overlap_at a x b.lo a.hi e) (overlap_at b y b.lo a.hi d)

-- ---- congruences

abbrev IsClassAt : ℤ → Congruence → Type 0
IsClassAt x c = congruences.range_of c ≡ pair x x

kept : (t : Bool) (a b : Congruence) (x y : ℤ) → IsClassAt x a → IsClassAt y b
    → IfSome (kept_unless t a b) (λ r. IsClassAt x r.0 × IsClassAt y r.1)
kept true a b x y e d = tt
kept false a b x y e d = (e, d)

pub classes_kept : (c : Cmp) (a b : Congruence) (x y : ℤ) → compares c x y ≡ true → IsClassAt x a → IsClassAt y b
    → IfSome (congruences.filter_of c a b) (λ r. IsClassAt x r.0 × IsClassAt y r.1)
classes_kept Eq a b x y h e d = met (congruences.meet_of a b) (meeting_range a b)
  where
    same : x ≡ y
    same = from_eq x y h

    both : pair y y ≡ pair x x
    both = ap (λ z. pair z z) (sym same)

    met : (o : Option Congruence)
        → IfSome o (λ c. (congruences.range_of c ≡ congruences.range_of a) ⊎
        (congruences.range_of c ≡ congruences.range_of b))
        → IfSome (option_map twice o) (λ r. IsClassAt x r.0 × IsClassAt y r.1)
    met None i = tt
    met (Some c) (inl i) = (i ∙ e, i ∙ (e ∙ sym both))
    met (Some c) (inr i) = (i ∙ (d ∙ both), i ∙ d)
classes_kept Ne a b x y h e d = kept (are_apart Ne a b) a b x y e d
classes_kept Lt a b x y h e d = kept (are_apart Lt a b) a b x y e d
classes_kept Le a b x y h e d = kept (are_apart Le a b) a b x y e d
classes_kept Gt a b x y h e d = kept (are_apart Gt a b) a b x y e d
classes_kept Ge a b x y h e d = kept (are_apart Ge a b) a b x y e d

-- ---- their pairs

module _ {A B : Type 0} (f : Ghosts A) (g : Ghosts B) (law : Lawful f.ops) (too : Lawful g.ops)
    (first : (c : Cmp) (a b : A) (x y : ℤ) → compares c x y ≡ true → f.ops.range a ≡ pair x x
    → f.ops.range b ≡ pair y y
    → IfSome (f.ops.filter c a b) (λ r. (f.ops.range r.0 ≡ pair x x) × (f.ops.range r.1 ≡ pair y y)))
    (second : (c : Cmp) (a b : B) (x y : ℤ) → compares c x y ≡ true → g.ops.range a ≡ pair x x
    → g.ops.range b ≡ pair y y
    → IfSome (g.ops.filter c a b) (λ r. (g.ops.range r.0 ≡ pair x x) × (g.ops.range r.1 ≡ pair y y))) where
  at_one : (v : ℤ) → common_part (pair v v) (pair v v) ≡ pair v v
  at_one v = same_pair _ _ _ _ (omega (arith, ints, clamps)) (omega (arith, ints, clamps))

  -- two single parts as a pair
  one : (a : A) (b : B) (v : ℤ) → f.ops.range a ≡ pair v v → g.ops.range b ≡ pair v v
      → IfSome (narrowed {f = f} {g = g} a b) (λ p. range_of p ≡ pair v v)
  one a b v e d =
      all (narrowed {f = f} {g = g} a b)
      (narrowed_single f g law too a b v (law.range_single a v e) (too.range_single b v d)
      (ap (λ r. common_part r (g.ops.range b)) e ∙ (ap (common_part (pair v v)) d ∙ at_one v)))
    where
      all : (o : Option (Pair A B f g)) → IsSomeAnd o (BothSingle f g law too v) → IfSome o
          (λ p. range_of p ≡ pair v v)
      all None h = absurd h
      all (Some p) h = single_range f g law too p v h

  paired : (x y : ℤ) (o : Option (A × A)) (k : Option (B × B))
      → IfSome o (λ r. (f.ops.range r.0 ≡ pair x x) × (f.ops.range r.1 ≡ pair y y))
      → IfSome k (λ r. (g.ops.range r.0 ≡ pair x x) × (g.ops.range r.1 ≡ pair y y))
      → IfSome (pairs_of {f = f} {g = g} o k) (λ r. (range_of r.0 ≡ pair x x) × (range_of r.1 ≡ pair y y))
  paired x y None k h i = tt
  paired x y (Some r) None h i = tt
  paired x y (Some r) (Some s) h i =
      zipped (λ p. range_of p ≡ pair x x) (λ p. range_of p ≡ pair y y) (narrowed {f = f} {g = g} r.0 s.0)
      (narrowed {f = f} {g = g} r.1 s.1) (one r.0 s.0 x h.0 i.0) (one r.1 s.1 y h.1 i.1)

  filtered : (c : Cmp) (x y : ℤ) → compares c x y ≡ true → (o k : Option (Pair A B f g))
      → IsSomeAnd o (BothSingle f g law too x) → IsSomeAnd k (BothSingle f g law too y)
      → IfSome (filter_between {f = f} {g = g} c o k) (λ r. (range_of r.0 ≡ pair x x) × (range_of r.1 ≡ pair y y))
  filtered c x y h None k i j = absurd i
  filtered c x y h (Some p) None i j = absurd j
  filtered c x y h (Some p) (Some q) i j =
      paired x y (f.ops.filter c p.left q.left) (g.ops.filter c p.right q.right)
      (first c p.left q.left x y h i.0 j.0) (second c p.right q.right x y h i.1 j.1)

  narrowed_at : (p : Pair A B f g) (v : ℤ) → range_of p ≡ pair v v
      → IsSomeAnd (narrowed_pair {f = f} {g = g} p) (BothSingle f g law too v)
  narrowed_at p v e =
      let h = single_holds f g law too p v e in narrowed_single f g law too p.left p.right v h.0 h.1 e

  pub pair_filters : (c : Cmp) (p q : Pair A B f g) (x y : ℤ) → compares c x y ≡ true → range_of p ≡ pair x x
      → range_of q ≡ pair y y
      → IfSome (filter_of {f = f} {g = g} c p q) (λ r. (range_of r.0 ≡ pair x x) × (range_of r.1 ≡ pair y y))
  pair_filters c p q x y h e d =
      filtered c x y h (narrowed_pair {f = f} {g = g} p) (narrowed_pair {f = f} {g = g} q) (narrowed_at p x e)
      (narrowed_at q y d)
