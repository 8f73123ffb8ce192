-- Laws of patterns.
use Rattle.std.proofs.Common.{◌≡◌, ℕ, ◌-◌, ◌^◌, ◌<◌, ℤ, Bool, true, false, ◌&&◌, ◌||◌, not, cond, nat_eq, nat_lt}
use Rattle.ep_int.proofs.Basics.{true_and_false, implied as holds_too}
use Rattle.std.proofs.lemmas.Bool.{eq-eqb, eqb-true, lt-ltb, ltb-true}
use Rattle.std.proofs.Common.{bit_and, bit_or, ◌⊎◌, inl, inr, arith, refl, sym, ap, ◌∙◌}
use Rattle.std.proofs.lemmas.Nat.{or_lt, and_le_l}
use Rattle.std.proofs.lemmas.Bool.{cases_eq, and_parts, and_from, or_cases, or_left, or_right}
use Rattle.ep_int.specs.Arith.{IsOfSomeType}
use Rattle.ep_range_laws.proofs.Comparisons.{between_true, from_between}
use Rattle.ep_bit_laws.specs.Bits.{bit, bit_of, low_bits}
use Rattle.ep_bit_laws.specs.Patterns.{Pattern, is_number, matches, has, Has, is_pattern, IsPattern, closed, exactly}
use Rattle.ep_bit_laws.specs.Patterns.{is_within, common, joint}
use Rattle.ep_bit_laws.proofs.Bits.{same_numbers, bit-and, bit-or, bit_of_zero, bit_within, bit_power}
use Rattle.ep_bit_laws.proofs.Bits.{bit_power_other, bit_turned}
use Rattle.ep_bit_laws.proofs.Numbers.{low_bits_below, bit_low_bits, negative_bits, same_integers}

-- ---- tests

-- no bit of both
pub apart_from : (a b : ℕ) → bit_and a b ≡ 0 → (k : ℕ) → bit a k ≡ true → bit b k ≡ false
apart_from a b e k h = at (bit b k) refl
  where
    at : (c : Bool) → bit b k ≡ c → c ≡ false
    at false f = refl
    at true f = absurd (true_and_false (bit (bit_and a b) k) (bit-and a b k ∙ and_from _ _ h f)
        (ap (λ n. bit n k) e ∙ bit_of_zero k))

pub from_apart : (a b : ℕ) → ((k : ℕ) → bit a k ≡ true → bit b k ≡ false) → bit_and a b ≡ 0
from_apart a b h = same_numbers (bit_and a b) 0 (λ k. bit-and a b k ∙ at (bit a k) (bit b k) (h k) ∙ sym
    (bit_of_zero k))
  where
    at : (x y : Bool) → (x ≡ true → y ≡ false) → (x && y) ≡ false
    at true y f = f refl
    at false y f = refl

-- the first has all bits of the second
pub inside_from : (a b : ℕ) → bit_and a b ≡ b → (k : ℕ) → bit b k ≡ true → bit a k ≡ true
inside_from a b e k h = (and_parts (bit a k) (bit b k) (sym (bit-and a b k) ∙ ap (λ n. bit n k) e ∙ h)).0

pub from_inside : (a b : ℕ) → ((k : ℕ) → bit b k ≡ true → bit a k ≡ true) → bit_and a b ≡ b
from_inside a b h = same_numbers (bit_and a b) b (λ k. bit-and a b k ∙ at (bit a k) (bit b k) (h k))
  where
    at : (x y : Bool) → (y ≡ true → x ≡ true) → (x && y) ≡ y
    at true y f = refl
    at false true f = absurd (true_and_false false (f refl) refl)
    at false false f = refl

-- ---- members

pub has_from : (p : Pattern) (z : ℤ) → has p z ≡ true → p.zeros < 2 ^ 65 → p.ones < 2 ^ 65 → Has p z
has_from p z h l m =
    let s = and_parts (is_number z) (matches p (low_bits z)) h in
    let q = from_between _ _ _ _ s.0 in
    let t = and_parts (nat_eq (bit_and (low_bits z) p.zeros) 0) (nat_eq (bit_and (low_bits z) p.ones) p.ones) s.1 in
    record {
      number = record { low = q.0; high = q.1 };
      zeros = λ k e. zero k e (bit_within p.zeros 65 k l e) (eqb-true _ _ t.0);
      ones = λ k e. sym (bit_low_bits z k (bit_within p.ones 65 k m e)) ∙ inside_from (low_bits z) p.ones
          (eqb-true _ _ t.1) k e;
    }
  where
    zero : (k : ℕ) → bit p.zeros k ≡ true → k < 65 → bit_and (low_bits z) p.zeros ≡ 0 → bit_of z k ≡ false
    zero k e l f = sym (bit_low_bits z k l) ∙ at (bit (low_bits z) k) refl
      where
        at : (c : Bool) → bit (low_bits z) k ≡ c → c ≡ false
        at false i = refl
        at true i = absurd (true_and_false (bit p.zeros k) e (apart_from (low_bits z) p.zeros f k i))

pub has_test : (p : Pattern) (z : ℤ) → p.zeros < 2 ^ 65 → p.ones < 2 ^ 65 → Has p z → has p z ≡ true
has_test p z l m h =
    and_from (is_number z) (matches p (low_bits z)) (between_true _ _ _ _ h.number.low h.number.high)
    (and_from _ _ (eq-eqb _ _ (from_apart (low_bits z) p.zeros zero))
    (eq-eqb _ _ (from_inside (low_bits z) p.ones one)))
  where
    zero : (k : ℕ) → bit (low_bits z) k ≡ true → bit p.zeros k ≡ false
    zero k e = at (bit p.zeros k) refl
      where
        at : (c : Bool) → bit p.zeros k ≡ c → c ≡ false
        at false i = refl
        at true i = absurd (true_and_false (bit (low_bits z) k) e
            (bit_low_bits z k (bit_within p.zeros 65 k l i) ∙ h.zeros k i))

    one : (k : ℕ) → bit p.ones k ≡ true → bit (low_bits z) k ≡ true
    one k e = bit_low_bits z k (bit_within p.ones 65 k m e) ∙ h.ones k e

-- ---- valid patterns

implied : (a b : Bool) → (a ≡ true → b ≡ true) → (not a || b) ≡ true
implied true b h = h refl
implied false b h = refl

pub pattern_from : (p : Pattern) → is_pattern p.zeros p.ones ≡ true → IsPattern p
pattern_from p h =
    let s = and_parts (nat_lt p.zeros (2 ^ 65) && nat_lt p.ones (2 ^ 65))
    (nat_eq (bit_and p.zeros p.ones) 0 && ((not (bit p.ones 64) || bit p.ones 63) &&
    (not (bit p.zeros 63) || bit p.zeros 64))) h in
    let l = and_parts (nat_lt p.zeros (2 ^ 65)) (nat_lt p.ones (2 ^ 65)) s.0 in
    let m = and_parts (nat_eq (bit_and p.zeros p.ones) 0)
    ((not (bit p.ones 64) || bit p.ones 63) && (not (bit p.zeros 63) || bit p.zeros 64)) s.1 in
    let n = and_parts (not (bit p.ones 64) || bit p.ones 63) (not (bit p.zeros 63) || bit p.zeros 64) m.1 in
    record {
      zeros_below = ltb-true _ _ l.0;
      ones_below = ltb-true _ _ l.1;
      apart = apart_from p.zeros p.ones (eqb-true _ _ m.0);
      negative = holds_too (bit p.ones 64) (bit p.ones 63) n.0;
      small = holds_too (bit p.zeros 63) (bit p.zeros 64) n.1;
    }

pub pattern_test : (p : Pattern) → IsPattern p → is_pattern p.zeros p.ones ≡ true
pattern_test p h =
    and_from (nat_lt p.zeros (2 ^ 65) && nat_lt p.ones (2 ^ 65))
    (nat_eq (bit_and p.zeros p.ones) 0 && ((not (bit p.ones 64) || bit p.ones 63) &&
    (not (bit p.zeros 63) || bit p.zeros 64)))
    (and_from _ _ (lt-ltb _ _ h.zeros_below) (lt-ltb _ _ h.ones_below))
    (and_from (nat_eq (bit_and p.zeros p.ones) 0) ((not (bit p.ones 64) || bit p.ones 63) &&
    (not (bit p.zeros 63) || bit p.zeros 64)) (eq-eqb _ _ (from_apart p.zeros p.ones h.apart))
    (and_from _ _ (implied (bit p.ones 64) (bit p.ones 63) h.negative)
    (implied (bit p.zeros 63) (bit p.zeros 64) h.small)))

-- ---- what is said of bits 63 and 64

-- a mask below 2^65 that is given a bit
pub given_bit : (m j k : ℕ) → bit (bit_or m (2 ^ j)) k ≡ true → (bit m k ≡ true) ⊎ (k ≡ j)
given_bit m j k e = by (or_cases _ _ (sym (bit-or m (2 ^ j) k) ∙ e))
  where
    at : (k ≡ j) ⊎ (k ≡ j → ⊥) → bit (2 ^ j) k ≡ true → k ≡ j
    at (inl i) f = i
    at (inr n) f = absurd (true_and_false _ f (bit_power_other j k n))

    same : (k j : ℕ) → (k ≡ j) ⊎ (k ≡ j → ⊥)
    same k j = cases_eq k j

    by : (bit m k ≡ true) ⊎ (bit (2 ^ j) k ≡ true) → (bit m k ≡ true) ⊎ (k ≡ j)
    by (inl f) = inl f
    by (inr f) = inr (at (same k j) f)

pub keeps_bit : (m n k : ℕ) → bit m k ≡ true → bit (bit_or m n) k ≡ true
keeps_bit m n k e = bit-or m n k ∙ or_left _ _ e

pub has_bit : (m j : ℕ) → bit (bit_or m (2 ^ j)) j ≡ true
has_bit m j = bit-or m (2 ^ j) j ∙ or_right (bit m j) _ (bit_power j)

-- closing keeps what is known
pub closed_zeros : (p : Pattern) (k : ℕ) → bit p.zeros k ≡ true → bit (closed p).zeros k ≡ true
closed_zeros p k e = at (bit p.zeros 63)
  where
    at : (c : Bool) → bit (cond c (bit_or p.zeros (2 ^ 64)) p.zeros) k ≡ true
    at true = keeps_bit p.zeros (2 ^ 64) k e
    at false = e

pub closed_ones : (p : Pattern) (k : ℕ) → bit p.ones k ≡ true → bit (closed p).ones k ≡ true
closed_ones p k e = at (bit p.ones 64)
  where
    at : (c : Bool) → bit (cond c (bit_or p.ones (2 ^ 63)) p.ones) k ≡ true
    at true = keeps_bit p.ones (2 ^ 63) k e
    at false = e

-- bits of a pattern, in which some number has the bits
pub record HasBits (p : Pattern) (z : ℤ) : Type 0 where
  pub zeros_below : p.zeros < 2 ^ 65
  pub ones_below : p.ones < 2 ^ 65
  pub has : Has p z

positive_bits : (z : ℤ) → IsOfSomeType z → bit_of z 63 ≡ false → bit_of z 64 ≡ false
positive_bits z h e = at (bit_of z 64) refl
  where
    at : (c : Bool) → bit_of z 64 ≡ c → c ≡ false
    at false f = refl
    at true f = absurd (true_and_false _ (negative_bits z h f) e)

-- closing says nothing new of numbers
pub closed_has : (p : Pattern) (z : ℤ) → Has p z → Has (closed p) z
closed_has p z h = record {
  number = h.number;
  zeros = λ k. zero (bit p.zeros 63) refl k;
  ones = λ k. one (bit p.ones 64) refl k;
}
  where
    zero : (c : Bool) → bit p.zeros 63 ≡ c → (k : ℕ) → bit (cond c (bit_or p.zeros (2 ^ 64)) p.zeros) k ≡ true
        → bit_of z k ≡ false
    zero false e k f = h.zeros k f
    zero true e k f = by (given_bit p.zeros 64 k f)
      where
        by : (bit p.zeros k ≡ true) ⊎ (k ≡ 64) → bit_of z k ≡ false
        by (inl g) = h.zeros k g
        by (inr i) = ap (bit_of z) i ∙ positive_bits z h.number (h.zeros 63 e)

    one : (c : Bool) → bit p.ones 64 ≡ c → (k : ℕ) → bit (cond c (bit_or p.ones (2 ^ 63)) p.ones) k ≡ true
        → bit_of z k ≡ true
    one false e k f = h.ones k f
    one true e k f = by (given_bit p.ones 63 k f)
      where
        by : (bit p.ones k ≡ true) ⊎ (k ≡ 63) → bit_of z k ≡ true
        by (inl g) = h.ones k g
        by (inr i) = ap (bit_of z) i ∙ negative_bits z h.number (h.ones 64 e)

-- where a number has all bits, the closed pattern may be a value
pub closed_pattern : (p : Pattern) (z : ℤ) → HasBits p z → IsPattern (closed p)
closed_pattern p z h = record {
  zeros_below = zeros_small (bit p.zeros 63);
  ones_below = ones_small (bit p.ones 64);
  apart = λ k e. not_both k e;
  negative = λ e. negative (bit p.ones 64) refl e;
  small = λ e. small (bit p.zeros 63) refl e;
}
  where
    zeros_small : (c : Bool) → cond c (bit_or p.zeros (2 ^ 64)) p.zeros < 2 ^ 65
    zeros_small true = or_lt 65 p.zeros (2 ^ 64) h.zeros_below (omega arith)
    zeros_small false = h.zeros_below

    ones_small : (c : Bool) → cond c (bit_or p.ones (2 ^ 63)) p.ones < 2 ^ 65
    ones_small true = or_lt 65 p.ones (2 ^ 63) h.ones_below (omega arith)
    ones_small false = h.ones_below

    member : Has (closed p) z
    member = closed_has p z h.has

    not_both : (k : ℕ) → bit (closed p).zeros k ≡ true → bit (closed p).ones k ≡ false
    not_both k e = at (bit (closed p).ones k) refl
      where
        at : (c : Bool) → bit (closed p).ones k ≡ c → c ≡ false
        at false f = refl
        at true f = absurd (true_and_false (bit_of z k) (member.ones k f) (member.zeros k e))

    negative : (c : Bool) → bit p.ones 64 ≡ c → bit (cond c (bit_or p.ones (2 ^ 63)) p.ones) 64 ≡ true → bit
        (cond c (bit_or p.ones (2 ^ 63)) p.ones) 63 ≡ true
    negative true e f = has_bit p.ones 63
    negative false e f = absurd (true_and_false _ f e)

    small : (c : Bool) → bit p.zeros 63 ≡ c → bit (cond c (bit_or p.zeros (2 ^ 64)) p.zeros) 63 ≡ true → bit
        (cond c (bit_or p.zeros (2 ^ 64)) p.zeros) 64 ≡ true
    small true e f = has_bit p.zeros 64
    small false e f = absurd (true_and_false _ f e)

-- ---- one number

pub exact_pattern : (v : ℤ) → IsOfSomeType v → IsPattern (exactly v)
exact_pattern v h = record {
  zeros_below = let l = low_bits_below v in omega arith;
  ones_below = low_bits_below v;
  apart = λ k e. at k e (bit_within (2 ^ 65 - 1 - low_bits v) 65 k (let l = low_bits_below v in omega arith) e);
  negative = λ e. bit_low_bits v 63 (omega arith) ∙ negative_bits v h (sym (bit_low_bits v 64 (omega arith)) ∙ e);
  small = λ e. bit_turned 65 (low_bits v) 64 (low_bits_below v) (omega arith) ∙ ap not
      (bit_low_bits v 64 (omega arith) ∙ positive_bits v h
      (sym (bit_low_bits v 63 (omega arith)) ∙ turned _
      (sym (bit_turned 65 (low_bits v) 63 (low_bits_below v) (omega arith)) ∙ e)));
}
  where
    turned : (b : Bool) → not b ≡ true → b ≡ false
    turned true e = absurd cc
    turned false e = refl

    at : (k : ℕ) → bit (2 ^ 65 - 1 - low_bits v) k ≡ true → k < 65 → bit (low_bits v) k ≡ false
    at k e l = turned _ (sym (bit_turned 65 (low_bits v) k (low_bits_below v) l) ∙ e)

pub exact_has : (v : ℤ) → IsOfSomeType v → Has (exactly v) v
exact_has v h = record {
  number = h;
  zeros = λ k e. let l = bit_within (2 ^ 65 - 1 - low_bits v) 65 k (let l = low_bits_below v in omega arith) e in sym
      (bit_low_bits v k l) ∙ (turned _ (sym (bit_turned 65 (low_bits v) k (low_bits_below v) l) ∙ e));
  ones = λ k e. sym (bit_low_bits v k (bit_within (low_bits v) 65 k (low_bits_below v) e)) ∙ e;
}
  where
    turned : (b : Bool) → not b ≡ true → b ≡ false
    turned true e = absurd cc
    turned false e = refl

pub exact_only : (v z : ℤ) → IsOfSomeType v → Has (exactly v) z → z ≡ v
exact_only v z h m = same_integers z v m.number h (λ k l. at k l (bit (low_bits v) k) refl)
  where
    at : (k : ℕ) → k < 65 → (c : Bool) → bit (low_bits v) k ≡ c → bit_of z k ≡ bit_of v k
    at k l true e = m.ones k e ∙ sym e ∙ bit_low_bits v k l
    at k l false e = m.zeros k (bit_turned 65 (low_bits v) k (low_bits_below v) l ∙ ap not e) ∙ sym e
        ∙ bit_low_bits v k l

-- ---- inclusion and joins

pub within_has : (p q : Pattern) (z : ℤ) → is_within p q ≡ true → Has p z → Has q z
within_has p q z e h =
    let s = and_parts (nat_eq (bit_and p.zeros q.zeros) q.zeros) (nat_eq (bit_and p.ones q.ones) q.ones) e in
    record {
      number = h.number;
      zeros = λ k f. h.zeros k (inside_from p.zeros q.zeros (eqb-true _ _ s.0) k f);
      ones = λ k f. h.ones k (inside_from p.ones q.ones (eqb-true _ _ s.1) k f);
    }

pub common_left : (p q : Pattern) (z : ℤ) → Has p z → Has (common p q) z
common_left p q z h = record {
  number = h.number;
  zeros = λ k e. h.zeros k (and_parts _ _ (sym (bit-and p.zeros q.zeros k) ∙ e)).0;
  ones = λ k e. h.ones k (and_parts _ _ (sym (bit-and p.ones q.ones k) ∙ e)).0;
}

pub common_right : (p q : Pattern) (z : ℤ) → Has q z → Has (common p q) z
common_right p q z h = record {
  number = h.number;
  zeros = λ k e. h.zeros k (and_parts (bit p.zeros k) (bit q.zeros k) (sym (bit-and p.zeros q.zeros k) ∙ e)).1;
  ones = λ k e. h.ones k (and_parts (bit p.ones k) (bit q.ones k) (sym (bit-and p.ones q.ones k) ∙ e)).1;
}

pub common_pattern : (p q : Pattern) → IsPattern p → IsPattern q → IsPattern (common p q)
common_pattern p q h i = record {
  zeros_below = let l = and_le_l p.zeros q.zeros in let m = h.zeros_below in omega arith;
  ones_below = let l = and_le_l p.ones q.ones in let m = h.ones_below in omega arith;
  apart = λ k e. bit-and p.ones q.ones k ∙ ap (λ b. b && bit q.ones k)
      (h.apart k (and_parts (bit p.zeros k) (bit q.zeros k) (sym (bit-and p.zeros q.zeros k) ∙ e)).0);
  negative = λ e. let s = and_parts (bit p.ones 64) (bit q.ones 64)
      (sym (bit-and p.ones q.ones 64) ∙ e) in bit-and p.ones q.ones 63 ∙ and_from _ _ (h.negative s.0)
      (i.negative s.1);
  small = λ e. let s = and_parts (bit p.zeros 63) (bit q.zeros 63)
      (sym (bit-and p.zeros q.zeros 63) ∙ e) in bit-and p.zeros q.zeros 64 ∙ and_from _ _ (h.small s.0) (i.small s.1);
}

pub joint_has : (p q : Pattern) (z : ℤ) → IsPattern p → IsPattern q → Has p z → Has q z → HasBits (joint p q) z
joint_has p q z i j h k = record {
  zeros_below = or_lt 65 p.zeros q.zeros i.zeros_below j.zeros_below;
  ones_below = or_lt 65 p.ones q.ones i.ones_below j.ones_below;
  has = record {
    number = h.number;
    zeros = λ n e. zero n (or_cases _ _ (sym (bit-or p.zeros q.zeros n) ∙ e));
    ones = λ n e. one n (or_cases _ _ (sym (bit-or p.ones q.ones n) ∙ e));
  };
}
  where
    zero : (n : ℕ) → (bit p.zeros n ≡ true) ⊎ (bit q.zeros n ≡ true) → bit_of z n ≡ false
    zero n (inl e) = h.zeros n e
    zero n (inr e) = k.zeros n e

    one : (n : ℕ) → (bit p.ones n ≡ true) ⊎ (bit q.ones n ≡ true) → bit_of z n ≡ true
    one n (inl e) = h.ones n e
    one n (inr e) = k.ones n e

-- what both have, each has
pub joint_left : (p q : Pattern) (z : ℤ) → Has (joint p q) z → Has p z
joint_left p q z h = record {
  number = h.number;
  zeros = λ k e. h.zeros k (keeps_bit p.zeros q.zeros k e);
  ones = λ k e. h.ones k (keeps_bit p.ones q.ones k e);
}

pub joint_right : (p q : Pattern) (z : ℤ) → Has (joint p q) z → Has q z
joint_right p q z h = record {
  number = h.number;
  zeros = λ k e. h.zeros k (bit-or p.zeros q.zeros k ∙ or_right (bit p.zeros k) _ e);
  ones = λ k e. h.ones k (bit-or p.ones q.ones k ∙ or_right (bit p.ones k) _ e);
}

-- closing takes no number away that has the bits, and adds none
pub from_closed : (p : Pattern) (z : ℤ) → Has (closed p) z → Has p z
from_closed p z h = record {
  number = h.number;
  zeros = λ k e. h.zeros k (closed_zeros p k e);
  ones = λ k e. h.ones k
      (closed_ones p k e);
}
