-- What two pairs of one single number have in common is single: the left parts' meet lies in both ranges, and the right
-- parts' has one of their ranges.
use Rattle.std.proofs.Common.{◌≡◌, ℤ, ◌≤ℤ◌, ◌⊎◌, inl, inr, Bool, true, false, cond, Option, Some, None}
use Rattle.std.proofs.Common.{option_and_then, IfSome, IsSomeAnd, refl, ap, arith}
use Rattle.std.specs.Int.{int_min, int_max}
use Rattle.std.proofs.lemmas.Int.{ints, clamps}
use Rattle.ep_range_laws.specs.Ranges.{LiesIn, Encloses}
use Rattle.ep_domain.specs.Domain.{Holds, Lawful}
use Rattle.ep_domain.specs.Common.{common_part}
use Rattle.ep_domain.specs.declared.num.Num.{Ghosts}
use Rattle.ep_domain.specs.declared.pair.Pair.{Pair}
use Rattle.ep_domain.specs.Pairs.{range_of, narrowed, narrowed_both, meet_of}
use Rattle.ep_domain.specs.Laws.Shared.{pair, same_pair}
use Rattle.ep_domain.specs.Laws.Narrowed.{BothSingle, single_holds, single_range, narrowed_single}
use Rattle.ep_interval_laws.specs.Ends.{is_range}
use Rattle.ep_interval_laws.specs.Interval.{Interval, between_at, overlap, ends_of}
use Rattle.ep_interval_laws.specs.Interval as intervals
use Rattle.ep_congruence_laws.specs.Multiples.{is_multiple, gcd}
use Rattle.ep_congruence_laws.specs.Classes as classes
use Rattle.ep_congruence_laws.specs.Classes.{Class, is_class, meeting, distance}
use Rattle.ep_congruence_laws.proofs.Cuts.{meeting_is}
use Rattle.ep_congruence_domain.specs.Congruence as congruences
use Rattle.ep_congruence_domain.specs.Congruence.{Congruence, class_of, formed, formed_at}

-- ---- each domain

pub lower : (x y : ℤ) → x ≤ℤ int_max x y
lower x y = omega (arith, ints, clamps)

lower_too : (x y : ℤ) → y ≤ℤ int_max x y
lower_too x y = omega (arith, ints, clamps)

pub upper : (x y : ℤ) → int_min x y ≤ℤ x
upper x y = omega (arith, ints, clamps)

upper_too : (x y : ℤ) → int_min x y ≤ℤ y
upper_too x y = omega (arith, ints, clamps)

pub overlap_inside : (a b : Interval)
    → IfSome (intervals.meet_of a b) (λ c. Encloses (ends_of a) (ends_of c) × Encloses (ends_of b) (ends_of c))
overlap_inside a b = by (is_range (int_max a.lo b.lo) (int_min a.hi b.hi)) refl
  where
    by : (t : Bool) (e : is_range (int_max a.lo b.lo) (int_min a.hi b.hi) ≡ t)
        → IfSome (between_at (int_max a.lo b.lo) (int_min a.hi b.hi) t e)
        (λ c. Encloses (ends_of a) (ends_of c) × Encloses (ends_of b) (ends_of c))
    by true e = (
      record { low = lower a.lo b.lo; high = upper a.hi b.hi },
      record { low = lower_too a.lo b.lo; high = upper_too a.hi b.hi },
    )
    by false e = tt

module _ (a b : Congruence) where
  abbrev m : Class
  m = meeting (class_of a) (class_of b)

  -- it has the range of one of both
  abbrev HasOne : Congruence → Type 0
  HasOne c = (congruences.range_of c ≡ congruences.range_of a) ⊎ (congruences.range_of c ≡ congruences.range_of b)

  ranges : (classes.range_of m ≡ congruences.range_of a) ⊎ (classes.range_of m ≡ congruences.range_of b)
  ranges = elim (meeting_is (class_of a) (class_of b)) [
    | inl e ↦ inl (ap classes.range_of e)
    | inr e ↦ inr (ap classes.range_of e)
  ]

  made : (t : Bool) (e : is_class m.remainder m.modulus ≡ t) → IfSome (formed_at m t e) HasOne
  made true e = ranges
  made false e = tt

  met : (t : Bool) → IfSome (option_and_then formed (cond t (Some m) None)) HasOne
  met true = made (is_class m.remainder m.modulus) refl
  met false = tt

  pub meeting_range : IfSome (congruences.meet_of a b) HasOne
  meeting_range = met (is_multiple (gcd (class_of a).modulus (class_of b).modulus) (distance (class_of a) (class_of b)))

-- ---- their pairs

module _ {A B : Type 0} (f : Ghosts A) (g : Ghosts B) (law : Lawful f.ops) (too : Lawful g.ops)
    (inside : (a b : A) → IfSome (f.ops.meet a b)
    (λ c. Encloses (f.ops.range a) (f.ops.range c) × Encloses (f.ops.range b) (f.ops.range c)))
    (either : (a b : B) → IfSome (g.ops.meet a b)
    (λ c. (g.ops.range c ≡ g.ops.range a) ⊎ (g.ops.range c ≡ g.ops.range b))) where
  -- the part of a range that has v, with one whose common part was v alone
  common : (p q r s : ℤ × ℤ) (v : ℤ) → common_part p q ≡ pair v v → Encloses p r → s ≡ q → LiesIn r v → LiesIn s v
      → common_part r s ≡ pair v v
  common p q r s v e i h k l =
      let a : int_max p.0 q.0 ≡ v = ap (λ z. z.0) e in
      let b : int_min p.1 q.1 ≡ v = ap (λ z. z.1) e in
      let c : s.0 ≡ q.0 = ap (λ z. z.0) h in
      let d : s.1 ≡ q.1 = ap (λ z. z.1) h in
      let x = i.low in
      let y = i.high in
      let m = k.low in
      let n = k.high in
      let t = l.low in
      let u = l.high in
      same_pair _ _ _ _ (omega (arith, ints, clamps)) (omega (arith, ints, clamps))

  meet_by : (p q : Pair A B f g) (v : ℤ) → range_of p ≡ pair v v → range_of q ≡ pair v v → (o : Option A) (k : Option B)
      → IfSome o (λ c. Encloses (f.ops.range p.left) (f.ops.range c) × Encloses (f.ops.range q.left) (f.ops.range c))
      → IfSome k (λ c. (g.ops.range c ≡ g.ops.range p.right) ⊎ (g.ops.range c ≡ g.ops.range q.right))
      → IsSomeAnd o (λ c. Holds f.ops c v) → IsSomeAnd k (λ c. Holds g.ops c v)
      → IfSome (narrowed_both {f = f} {g = g} o k) (λ c. range_of c ≡ pair v v)
  meet_by p q v e h None k i j x y = tt
  meet_by p q v e h (Some c) None i j x y = tt
  meet_by p q v e h (Some c) (Some d) i j x y =
      all (narrowed {f = f} {g = g} c d) (narrowed_single f g law too c d v x y (elim j [
        | inl r ↦ common (f.ops.range p.left) (g.ops.range p.right) (f.ops.range c) (g.ops.range d) v e i.0 r
            (law.range_encloses c v x) (too.range_encloses d v y)
        | inr r ↦ common (f.ops.range q.left) (g.ops.range q.right) (f.ops.range c) (g.ops.range d) v h i.1 r
            (law.range_encloses c v x) (too.range_encloses d v y)
      ]))
    where
      all : (o : Option (Pair A B f g)) → IsSomeAnd o (BothSingle f g law too v) → IfSome o (λ c. range_of c ≡ pair v v)
      all None h = absurd h
      all (Some c) h = single_range f g law too c v h

  pub pair_meets : (p q : Pair A B f g) (v : ℤ) → range_of p ≡ pair v v → range_of q ≡ pair v v
      → IfSome (meet_of {f = f} {g = g} p q) (λ c. range_of c ≡ pair v v)
  pair_meets p q v e h =
      let x = single_holds f g law too p v e in
      let y = single_holds f g law too q v h in
      meet_by p q v e h (f.ops.meet p.left q.left) (g.ops.meet p.right q.right) (inside p.left q.left)
      (either p.right q.right) (law.meet_holds p.left q.left v x.0 y.0) (too.meet_holds p.right q.right v x.1 y.1)
