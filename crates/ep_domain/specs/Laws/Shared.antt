-- What two values of lawful domains have in common.
use Rattle.std.specs.Prelude.{◌≡◌, ℤ, pos, ◌≤ℤ◌, ◌<ℤ◌, ◌⊎◌, Bool, true, false, ◌&&◌, int_lt, refl}
use Rattle.ep_int.proofs.Arithmetic.{zero_in_range}
use Rattle.std.proofs.Common.{arith, ap, ◌∙◌, subst, inl, inr}
use Rattle.std.proofs.lemmas.Int.{ints, clamps}
use Rattle.std.proofs.lemmas.Bool.{and_parts, and_from, or_cases, or_left, or_right}
use Rattle.ep_int.specs.declared.types.IntType.{IntType}
use Rattle.ep_int.specs.Arith.{int_eq, IsOfSomeType}
use Rattle.ep_range_laws.specs.Ranges.{IsRange, LiesIn, Encloses, nearest_number}
use Rattle.ep_domain.specs.Domain.{Ops, Holds, Lawful}
use Rattle.ep_domain.specs.Common.{common_part, common_range, is_shared, may_pair}
use Rattle.ep_range_laws.proofs.Comparisons.{le_self, le_antisym, le_trans, from_lt_true, from_lt_false, between_true}
use Rattle.ep_range_laws.proofs.Comparisons.{from_between}

abbrev pub pair : ℤ → ℤ → ℤ × ℤ
pair a b = (a, b)

pub same_pair : (a b c d : ℤ) → a ≡ c → b ≡ d → pair a b ≡ pair c d
same_pair a b c d e f = ap (λ x. pair x b) e ∙ ap (pair c) f

pub common_lies : (r s : ℤ × ℤ) (z : ℤ) → LiesIn r z → LiesIn s z → LiesIn (common_part r s) z
common_lies r s z h k = let a = h.low in let b = h.high in let c = k.low in let d = k.high in
    record { low = omega (arith, ints, clamps); high = omega (arith, ints, clamps) }

pub from_common : (r s : ℤ × ℤ) (z : ℤ) → LiesIn (common_part r s) z → LiesIn r z × LiesIn s z
from_common r s z h =
    let a = h.low in let b = h.high in (
      record { low = omega (arith, ints, clamps); high = omega (arith, ints, clamps) },
      record
          { low = omega (arith, ints, clamps); high = omega (arith, ints, clamps) },
    )

-- one number alone
pub same_ends : (e : ℤ × ℤ) (v : ℤ) → LiesIn e v → Encloses (pair v v) e → e ≡ pair v v
same_ends e v h k = same_pair e.0 e.1 v v (le_antisym _ _ h.low k.low) (le_antisym _ _ k.high h.high)

pub eq_true : (a b : ℤ) → a ≡ b → int_eq a b ≡ true
eq_true a b e = subst (λ x. int_eq a x ≡ true) e (between_true a a a a (le_self a) (le_self a))

pub from_eq : (a b : ℤ) → int_eq a b ≡ true → a ≡ b
from_eq a b e = let p = from_between a b b a e in le_antisym a b p.0 p.1

pub common_encloses : (r s x y : ℤ × ℤ) → Encloses r x → Encloses s y → Encloses (common_part r s) (common_part x y)
common_encloses r s x y h k =
    let a = h.low in let b = h.high in let c = k.low in let d = k.high in
    record { low = omega (arith, ints, clamps); high = omega (arith, ints, clamps) }

pub nearest_of_some_type : (v : ℤ) → IsOfSomeType (nearest_number v)
nearest_of_some_type v = record { low = omega (arith, ints, clamps); high = omega (arith, ints, clamps) }

pub nearest_same : (v : ℤ) → IsOfSomeType v → nearest_number v ≡ v
nearest_same v h = let p = h.low in let q = h.high in omega (arith, ints, clamps)

module _ {A B : Type 0} (d : Ops A) (e : Ops B) (law : Lawful d) (too : Lawful e) where
  shared_by : (a : A) (b : B) (r : ℤ × ℤ) (z : ℤ) → LiesIn r z → Holds d a z → Holds e b z → is_shared d e a b r ≡ true
  shared_by a b r z h p q = by_test (int_lt r.0 r.1) refl
    where
      by_test : (t : Bool) → int_lt r.0 r.1 ≡ t → is_shared d e a b r ≡ true
      by_test true n = or_left _ _ n
      by_test false n =
          let k = from_lt_false r.0 r.1 n in
          let l : z ≡ r.0 = le_antisym z r.0 (le_trans _ _ _ h.high k) h.low in
          or_right (int_lt r.0 r.1) _ (and_from _ _ (eq_true r.0 r.1 (le_antisym _ _ (le_trans _ _ _ h.low h.high) k))
          (and_from _ _ (subst (Holds d a) l p) (subst (Holds e b) l q)))

  pub common_holds : (a : A) (b : B) (z : ℤ) → Holds d a z → Holds e b z → LiesIn (common_range d e a b) z
  common_holds a b z p q = common_lies _ _ z (law.range_encloses a z p) (too.range_encloses b z q)

  -- two values that hold a number can be a pair
  pub held_shared : (a : A) (b : B) (z : ℤ) → Holds d a z → Holds e b z → may_pair d e a b ≡ true
  held_shared a b z p q = shared_by a b _ z (common_holds a b z p q) p q

  pub tops_shared : (t : IntType) → may_pair d e (d.top t) (e.top t) ≡ true
  tops_shared t =
      held_shared _ _ (pos 0) (law.top_holds t (pos 0) (zero_in_range t)) (too.top_holds t (pos 0) (zero_in_range t))

  pub singles_shared : (v : ℤ) → IsOfSomeType v → may_pair d e (d.single v) (e.single v) ≡ true
  singles_shared v h = held_shared _ _ v (law.single_holds v h) (too.single_holds v h)

  -- of a pair of which the range is one number, both parts hold it
  pub shared_single : (a : A) (b : B) (v : ℤ) → may_pair d e a b ≡ true → common_range d e a b ≡ pair v v →
      Holds d a v × Holds e b v
  shared_single a b v m n = by_cases (or_cases _ _ m)
    where
      first : (common_range d e a b).0 ≡ v
      first = ap (λ (r : ℤ × ℤ). r.0) n

      second : (common_range d e a b).1 ≡ v
      second = ap (λ (r : ℤ × ℤ). r.1) n

      not_below : (l h : ℤ) → l ≡ v → h ≡ v → int_lt l h ≡ true → ⊥
      not_below l h d e k = let i = from_lt_true l h k in omega (arith, ints)

      by_cases : (int_lt (common_range d e a b).0 (common_range d e a b).1 ≡ true)
          ⊎ ((int_eq (common_range d e a b).0 (common_range d e a b).1 &&
          (d.holds a (common_range d e a b).0 && e.holds b (common_range d e a b).0)) ≡ true) → Holds d a v
          × Holds e b v
      by_cases (inl h) = absurd (not_below _ _ first second h)
      by_cases (inr h) =
          let q = and_parts _ _ (and_parts (int_eq (common_range d e a b).0 (common_range d e a b).1) _ h).1 in
          (subst (Holds d a) first q.0, subst (Holds e b) first q.1)

  pub shared_ends : (a : A) (b : B) → may_pair d e a b ≡ true →
      IsRange (common_range d e a b).0 (common_range d e a b).1
  shared_ends a b m =
      let i = law.range_ends a in let j = too.range_ends b in
      let k = i.above in let l = i.below in let n = j.above in let o = j.below in
      record {
        above = omega (arith, ints, clamps);
        ordered = by_cases (or_cases _ _ m);
        below = omega (arith, ints, clamps);
      }
    where
      below : (a b : ℤ) → a <ℤ b → a ≤ℤ b
      below a b h = omega (arith, ints)

      by_cases : (int_lt (common_range d e a b).0 (common_range d e a b).1 ≡ true)
          ⊎ ((int_eq (common_range d e a b).0 (common_range d e a b).1 &&
          (d.holds a (common_range d e a b).0 && e.holds b (common_range d e a b).0)) ≡ true) →
          (common_range d e a b).0 ≤ℤ (common_range d e a b).1
      by_cases (inl h) = below (common_range d e a b).0 (common_range d e a b).1 (from_lt_true _ _ h)
      by_cases (inr h) = let i = from_eq _ _
          (and_parts (int_eq (common_range d e a b).0 (common_range d e a b).1) _ h).0 in
          subst (λ x. (common_range d e a b).0 ≤ℤ x) i (le_self _)

  -- the parts of a pair, widened, are those of a pair
  pub widened_shared : (a c : A) (b f : B) → may_pair d e a b ≡ true → may_pair d e (d.widen a c) (e.widen b f) ≡ true
  widened_shared a c b f m = by_test (int_lt r.0 r.1) refl
    where
      r : ℤ × ℤ
      r = common_range d e (d.widen a c) (e.widen b f)

      encloses : Encloses r (common_range d e a b)
      encloses = common_encloses _ _ _ _ (law.widen_range_left a c) (too.widen_range_left b f)

      by_test : (t : Bool) → int_lt r.0 r.1 ≡ t → is_shared d e (d.widen a c) (e.widen b f) r ≡ true
      by_test true n = or_left _ _ n
      by_test false n =
          let k = from_lt_false r.0 r.1 n in
          let i = shared_ends a b m in
          let low : (common_range d e a b).0 ≡ r.0 =
          le_antisym _ _ (le_trans _ _ _ i.ordered (le_trans _ _ _ encloses.high k)) encloses.low in
          let high : (common_range d e a b).1 ≡ r.0 =
          le_antisym _ _ (le_trans _ _ _ encloses.high k) (le_trans _ _ _ encloses.low i.ordered) in
          let h = shared_single a b r.0 m (same_pair _ _ _ _ low high) in
          or_right (int_lt r.0 r.1) _ (and_from _ _
          (eq_true r.0 r.1 (le_antisym _ _
          (le_trans _ _ _ encloses.low (le_trans _ _ _ i.ordered encloses.high)) k))
          (and_from _ _ (law.widen_left _ _ _ h.0) (too.widen_left _ _ _ h.1)))
