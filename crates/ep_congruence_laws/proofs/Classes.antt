-- Laws of congruence classes.
use Prim.Native.Nat.{◌∣◌}
use Rattle.ep_int.proofs.Arithmetic.{le_fact, le_test}
use Rattle.ep_congruence_laws.proofs.Multiples.{eq_zero, zero_eq}
use Rattle.std.proofs.lemmas.Bool.{le-leb, leb-true}
use Rattle.std.proofs.Common.{◌≡◌, ℕ, zero, suc, ◌/◌, ◌<◌, ◌≤◌, ℤ, pos, negsuc, ◌+ℤ◌, ◌-ℤ◌, ◌*ℤ◌, ◌≤ℤ◌, ◌<ℤ◌, neg_ℤ}
use Rattle.std.proofs.Common.{Bool, true, false, cond, ◌&&◌, ◌||◌, ◌⊎◌, inl, inr, nat_eq, nat_le, arith, refl, sym}
use Rattle.std.proofs.Common.{ap, ◌∙◌, subst}
use Rattle.std.specs.Prelude.{unsigned_abs, int_le, int_lt}
use Rattle.std.proofs.Math.IntN.{zero-*ℤ, *ℤ_comm}
use Rattle.std.proofs.lemmas.Int.{ints}
use Rattle.std.proofs.lemmas.Nat.{div-add-mod', mod_below}
use Rattle.std.proofs.lemmas.Nat.Gcd.{le_of_dvd}
use Rattle.std.proofs.lemmas.Bool.{and_parts, and_from, or_cases, or_left, or_right}
use Rattle.std.proofs.lemmas.Bool.Decides.{nat_tests}
use Rattle.ep_int.specs.declared.types.IntType.TheVariants.{I64, U64}
use Rattle.ep_int.specs.Types.{least_of, greatest_of, residue}
use Rattle.ep_int.specs.Arith.{IsOfSomeType}
use Rattle.ep_int.proofs.Wrapping.{residue_below}
use Rattle.ep_range_laws.proofs.Comparisons.{from_le_false, lt_true, from_lt_true}
use Rattle.ep_range_laws.proofs.Comparisons.{between_true, from_between, le_trans}
use Rattle.ep_congruence_laws.specs.Multiples.{IsMultiple, is_multiple}
use Rattle.ep_congruence_laws.specs.Classes.{Class, class, one, is_number, has, Has, greatest_modulus, is_class}
use Rattle.ep_congruence_laws.specs.Classes.{reduced}
use Rattle.ep_congruence_laws.proofs.Multiples.{multiple_sum, multiple_difference, size_of_multiple, none_of, itself}
use Rattle.ep_congruence_laws.proofs.Multiples.{test_multiple, multiple_test}

pub nonzero_from : (n : ℕ) → nat_eq n 0 ≡ false → 0 < n
nonzero_from n h = grind (arith, nat_tests)

pub nonzero_test : (n : ℕ) → 0 < n → nat_eq n 0 ≡ false
nonzero_test n h = grind (arith, nat_tests)

-- ---- members

pub has_from : (c : Class) (z : ℤ) → has c z ≡ true → Has c z
has_from c z h =
    let p = and_parts (is_number z) (is_multiple c.modulus (z -ℤ c.remainder)) h in
    let q = from_between _ _ _ _ p.0 in
    record { number = record { low = q.0; high = q.1 }; congruent = test_multiple _ _ p.1 }

pub has_test : (c : Class) (z : ℤ) → Has c z → has c z ≡ true
has_test c z h = and_from (is_number z) (is_multiple c.modulus (z -ℤ c.remainder)) (between_true _ _ _ _ h.number.low h.number.high) (multiple_test _ _ h.congruent)

-- the remainder of a number less a residue is a multiple
pub residue_multiple : (m : ℕ) (z : ℤ) → 0 < m → IsMultiple m (z -ℤ pos (residue m z))
residue_multiple m (pos n) h = (pos (n / m), let e = div-add-mod' n m in omega (arith, ints))
residue_multiple m (negsuc n) h = (negsuc (n / m), let e = div-add-mod' n m in let f = mod_below n m h in omega (arith, ints))

swapped : (x y z : ℤ) → (x -ℤ y) -ℤ (z -ℤ y) ≡ x -ℤ z
swapped x y z = omega (arith, ints)

chained : (x y z : ℤ) → (x -ℤ y) +ℤ (y -ℤ z) ≡ x -ℤ z
chained x y z = omega (arith, ints)

pub chain : (m : ℕ) (x y z : ℤ) → IsMultiple m (x -ℤ y) → IsMultiple m (y -ℤ z) → IsMultiple m (x -ℤ z)
chain m x y z h k = subst (IsMultiple m) (chained x y z) (multiple_sum m _ _ h k)

pub turn : (m : ℕ) (x y : ℤ) → IsMultiple m (x -ℤ y) → IsMultiple m (y -ℤ x)
turn m x y h = subst (IsMultiple m) (turned x y) (multiple_difference m (pos 0) (x -ℤ y) (none_of m) h)
  where
    turned : (x y : ℤ) → pos 0 -ℤ (x -ℤ y) ≡ y -ℤ x
    turned x y = omega (arith, ints)

-- a multiple that is smaller in size than the number is 0
pub small_multiple : (m : ℕ) (z : ℤ) → neg_ℤ (pos m) <ℤ z → z <ℤ pos m → IsMultiple m z → z ≡ pos 0
small_multiple m z p q h = at (unsigned_abs z) (size_of_multiple m z h) refl
  where
    smaller : (z : ℤ) (m : ℕ) → neg_ℤ (pos m) <ℤ z → z <ℤ pos m → unsigned_abs z < m
    smaller (pos n) m p q = omega (arith, ints)
    smaller (negsuc n) m p q = omega (arith, ints)

    is_zero : (z : ℤ) → unsigned_abs z ≡ 0 → z ≡ pos 0
    is_zero (pos n) e = ap pos e
    is_zero (negsuc n) e = absurd (omega arith)

    at : (n : ℕ) → m ∣ n → unsigned_abs z ≡ n → z ≡ pos 0
    at zero h e = is_zero z e
    at (suc n) h e = let k = le_of_dvd (omega arith) h in let s = smaller z m p q in absurd (omega arith)

pub residue_same : (m : ℕ) (x y : ℤ) → 0 < m → IsMultiple m (x -ℤ y) → residue m x ≡ residue m y
residue_same m x y h k =
    let p = residue_multiple m x h in let q = residue_multiple m y h in
    let d : IsMultiple m (pos (residue m x) -ℤ pos (residue m y)) = chain m (pos (residue m x)) x (pos (residue m y)) (turn m x (pos (residue m x)) p) (chain m x y (pos (residue m y)) k q) in
    let l = residue_below m x h in let u = residue_below m y h in
    last (residue m x) (residue m y) (small_multiple m (pos (residue m x) -ℤ pos (residue m y)) (omega (arith, ints)) (omega (arith, ints)) d)
  where
    last : (a b : ℕ) → pos a -ℤ pos b ≡ pos 0 → a ≡ b
    last a b e = omega (arith, ints)

-- ---- the reduced class has the same numbers

pub reduced_zero : (r : ℤ) (m : ℕ) → nat_eq m 0 ≡ true → reduced r m ≡ one r
reduced_zero r m e = ap (λ t. cond t (one r) (class (pos (residue m r)) m)) e

pub reduced_more : (r : ℤ) (m : ℕ) → nat_eq m 0 ≡ false → reduced r m ≡ class (pos (residue m r)) m
reduced_more r m e = ap (λ t. cond t (one r) (class (pos (residue m r)) m)) e

pub in_reduced : (r z : ℤ) (m : ℕ) → IsMultiple m (z -ℤ r) → IsMultiple (reduced r m).modulus (z -ℤ (reduced r m).remainder)
in_reduced r z m h = at (nat_eq m 0) refl
  where
    at : (t : Bool) → nat_eq m 0 ≡ t → IsMultiple (cond t (one r) (class (pos (residue m r)) m)).modulus (z -ℤ (cond t (one r) (class (pos (residue m r)) m)).remainder)
    at true e = subst (λ n. IsMultiple n (z -ℤ r)) (eq_zero m e) h
    at false e = chain m z r (pos (residue m r)) h (residue_multiple m r (nonzero_from m e))

pub from_reduced : (r z : ℤ) (m : ℕ) → IsMultiple (reduced r m).modulus (z -ℤ (reduced r m).remainder) → IsMultiple m (z -ℤ r)
from_reduced r z m = at (nat_eq m 0) refl
  where
    at : (t : Bool) → nat_eq m 0 ≡ t → IsMultiple (cond t (one r) (class (pos (residue m r)) m)).modulus (z -ℤ (cond t (one r) (class (pos (residue m r)) m)).remainder) → IsMultiple m (z -ℤ r)
    at true e h = subst (λ n. IsMultiple n (z -ℤ r)) (sym (eq_zero m e)) h
    at false e h = chain m z (pos (residue m r)) r h (turn m r (pos (residue m r)) (residue_multiple m r (nonzero_from m e)))

pub reduced_modulus : (r : ℤ) (m : ℕ) → (reduced r m).modulus ≡ m
reduced_modulus r m = at (nat_eq m 0) refl
  where
    at : (t : Bool) → nat_eq m 0 ≡ t → (cond t (one r) (class (pos (residue m r)) m)).modulus ≡ m
    at true e = sym (eq_zero m e)
    at false e = refl

-- ---- which classes have a number of some type

-- A class with such a number and a modulus within the limit is one that a value may be.
pub class_with : (r z : ℤ) (m : ℕ) → m ≤ greatest_modulus → IsOfSomeType z → IsMultiple m (z -ℤ r) → is_class (reduced r m).remainder (reduced r m).modulus ≡ true
class_with r z m l i h = at (nat_eq m 0) refl
  where
    same_zero : (z r : ℤ) (k : ℤ) → z -ℤ r ≡ k *ℤ pos 0 → k *ℤ pos 0 ≡ pos 0 → z ≡ r
    same_zero z r k e f = omega (arith, ints)

    -- the remainder, or that less the modulus, is of some type
    near : (m s : ℕ) (z : ℤ) → s < m → IsOfSomeType z → IsMultiple m (z -ℤ pos s) → (int_le (pos s) (greatest_of U64) || int_le (least_of I64) (pos s -ℤ pos m)) ≡ true
    near m s z b i k = by_test (int_le (pos s) (greatest_of U64)) refl
      where
        above : (m s : ℕ) (z : ℤ) → least_of I64 ≤ℤ z → z ≤ℤ greatest_of U64 → greatest_of U64 <ℤ pos s → s < m → IsMultiple m (z -ℤ pos s) → least_of I64 ≤ℤ (pos s -ℤ pos m)
        above m s z p q g b k = by_le (int_le z (pos s -ℤ pos m)) refl
          where
            below : (m s : ℕ) (z : ℤ) → (pos s -ℤ pos m) <ℤ z → z <ℤ pos s → IsMultiple m (z -ℤ pos s) → ⊥
            below m s z l u k = let n = small_multiple m (z -ℤ pos s) (omega (arith, ints)) (omega (arith, ints)) k in omega (arith, ints)

            by_le : (t : Bool) → int_le z (pos s -ℤ pos m) ≡ t → least_of I64 ≤ℤ (pos s -ℤ pos m)
            by_le true e = le_trans (least_of I64) z (pos s -ℤ pos m) p (le_fact z (pos s -ℤ pos m) e)
            by_le false e = absurd (below m s z (from_le_false z (pos s -ℤ pos m) e) (omega (arith, ints)) k)

        by_test : (t : Bool) → int_le (pos s) (greatest_of U64) ≡ t → (int_le (pos s) (greatest_of U64) || int_le (least_of I64) (pos s -ℤ pos m)) ≡ true
        by_test true e = or_left (int_le (pos s) (greatest_of U64)) (int_le (least_of I64) (pos s -ℤ pos m)) e
        by_test false e = or_right (int_le (pos s) (greatest_of U64)) (int_le (least_of I64) (pos s -ℤ pos m)) (le_test (least_of I64) (pos s -ℤ pos m) (above m s z i.low i.high (from_le_false (pos s) (greatest_of U64) e) b k))

    at : (t : Bool) → nat_eq m 0 ≡ t → is_class (cond t (one r) (class (pos (residue m r)) m)).remainder (cond t (one r) (class (pos (residue m r)) m)).modulus ≡ true
    at true e =
        let k = subst (λ n. IsMultiple n (z -ℤ r)) (eq_zero m e) h in
        let s : z ≡ r = same_zero z r k.0 k.1 (*ℤ_comm k.0 (pos 0) ∙ zero-*ℤ k.0) in
        subst (λ x. is_number x ≡ true) s (between_true _ _ _ _ i.low i.high)
    at false e =
        let b = residue_below m r (nonzero_from m e) in
        ap (λ t. cond t (is_number (pos (residue m r))) ((nat_le m greatest_modulus && (int_le (pos 0) (pos (residue m r)) && int_lt (pos (residue m r)) (pos m))) && (int_le (pos (residue m r)) (greatest_of U64) || int_le (least_of I64) (pos (residue m r) -ℤ pos m)))) e
        ∙ and_from _ _ (and_from _ _ (le-leb _ _ l) (and_from _ _ (le_test (pos 0) (pos (residue m r)) (omega (arith, ints))) (lt_true (pos (residue m r)) (pos m) (omega (arith, ints))))) (near m (residue m r) z b i (chain m z r (pos (residue m r)) h (residue_multiple m r (nonzero_from m e))))

pub class_small : (r : ℤ) (m : ℕ) → is_class r m ≡ true → m ≤ greatest_modulus
class_small r m h = at (nat_eq m 0) refl h
  where
    at : (t : Bool) → nat_eq m 0 ≡ t → cond t (is_number r) ((nat_le m greatest_modulus && (int_le (pos 0) r && int_lt r (pos m))) && (int_le r (greatest_of U64) || int_le (least_of I64) (r -ℤ pos m))) ≡ true → m ≤ greatest_modulus
    at true e k = let f = eq_zero m e in omega arith
    at false e k = leb-true _ _ (and_parts (nat_le m greatest_modulus) (int_le (pos 0) r && int_lt r (pos m)) (and_parts (nat_le m greatest_modulus && (int_le (pos 0) r && int_lt r (pos m))) (int_le r (greatest_of U64) || int_le (least_of I64) (r -ℤ pos m)) k).0).0

-- the remainder of a modulus that isn't 0
pub class_remainder : (r : ℤ) (m : ℕ) → is_class r m ≡ true → 0 < m → (pos 0 ≤ℤ r) × (r <ℤ pos m)
class_remainder r m h l = at (nat_eq m 0) (nonzero_test m l) h
  where
    at : (t : Bool) → t ≡ false → cond t (is_number r) ((nat_le m greatest_modulus && (int_le (pos 0) r && int_lt r (pos m))) && (int_le r (greatest_of U64) || int_le (least_of I64) (r -ℤ pos m))) ≡ true → (pos 0 ≤ℤ r) × (r <ℤ pos m)
    at true e k = cc
    at false e k =
        let p = and_parts (int_le (pos 0) r) (int_lt r (pos m)) (and_parts (nat_le m greatest_modulus) (int_le (pos 0) r && int_lt r (pos m)) (and_parts (nat_le m greatest_modulus && (int_le (pos 0) r && int_lt r (pos m))) (int_le r (greatest_of U64) || int_le (least_of I64) (r -ℤ pos m)) k).0).1 in
        (le_fact _ _ p.0, from_lt_true _ _ p.1)

pub class_one : (r : ℤ) → is_class r 0 ≡ true → IsOfSomeType r
class_one r h = let p = from_between _ _ _ _ h in record { low = p.0; high = p.1 }

-- A class that a value may be has a number of some type.
pub class_has : (r : ℤ) (m : ℕ) → is_class r m ≡ true → (z : ℤ) × IsOfSomeType z × IsMultiple m (z -ℤ r)
class_has r m h = at (nat_eq m 0) refl h
  where
    nothing : (r : ℤ) → r -ℤ r ≡ pos 0
    nothing r = omega (arith, ints)

    less : (r : ℤ) (m : ℕ) → pos 0 -ℤ pos m ≡ (r -ℤ pos m) -ℤ r
    less r m = omega (arith, ints)

    here : IsMultiple m (r -ℤ r)
    here = subst (IsMultiple m) (sym (nothing r)) (none_of m)

    at : (t : Bool) → nat_eq m 0 ≡ t → cond t (is_number r) ((nat_le m greatest_modulus && (int_le (pos 0) r && int_lt r (pos m))) && (int_le r (greatest_of U64) || int_le (least_of I64) (r -ℤ pos m))) ≡ true → (z : ℤ) × IsOfSomeType z × IsMultiple m (z -ℤ r)
    at true e k = let p = from_between _ _ _ _ k in (r, record { low = p.0; high = p.1 }, here)
    at false e k =
        let p = and_parts (nat_le m greatest_modulus && (int_le (pos 0) r && int_lt r (pos m))) (int_le r (greatest_of U64) || int_le (least_of I64) (r -ℤ pos m)) k in
        let q = and_parts (int_le (pos 0) r) (int_lt r (pos m)) (and_parts (nat_le m greatest_modulus) (int_le (pos 0) r && int_lt r (pos m)) p.0).1 in
        let l = le_fact (pos 0) r q.0 in let u = from_lt_true r (pos m) q.1 in
        by (or_cases (int_le r (greatest_of U64)) (int_le (least_of I64) (r -ℤ pos m)) p.1) l u
      where
        by : (int_le r (greatest_of U64) ≡ true) ⊎ (int_le (least_of I64) (r -ℤ pos m) ≡ true) → pos 0 ≤ℤ r → r <ℤ pos m → (z : ℤ) × IsOfSomeType z × IsMultiple m (z -ℤ r)
        by (inl n) l u = (r, record { low = omega (arith, ints); high = le_fact _ _ n }, here)
        by (inr n) l u = (r -ℤ pos m, record { low = le_fact _ _ n; high = omega (arith, ints) }, subst (IsMultiple m) (less r m) (multiple_difference m (pos 0) (pos m) (none_of m) (itself m)))
