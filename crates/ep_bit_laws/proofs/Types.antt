-- Patterns and the integer types.
use Rattle.std.proofs.Common.{◌≡◌, ℕ, ◌-◌, ◌%◌, ◌^◌, ◌<◌, ◌≤◌, ℤ, Bool, true, false, ◌&&◌, ◌||◌, not, cond, nat_eq}
use Rattle.ep_int.proofs.Arithmetic.{in_range_some_type}
use Rattle.ep_int.proofs.Basics.{true_and_false}
use Rattle.std.proofs.Common.{bit_and, bit_or, ◌⊎◌, inl, inr, arith, refl, sym, ap, ◌∙◌, subst}
use Rattle.std.proofs.lemmas.Nat.{or_lt, pow_pos, mod_below}
use Rattle.std.proofs.Math.Pow.{pow_mono}
use Rattle.std.proofs.lemmas.Bool.{cases_lt, or_cases}
use Rattle.ep_int.specs.declared.types.IntType.{IntType}
use Rattle.ep_int.specs.Types.{bits_of, is_signed, InRange, wrapped}
use Rattle.ep_int.proofs.Wrapping.{wrapped_in_range}
use Rattle.ep_bit_laws.specs.Bits.{bit, bit_of}
use Rattle.ep_bit_laws.specs.Patterns.{Pattern, Has, IsPattern, sign_place, sign_bits, type_pattern, in_type, low_part}
use Rattle.ep_bit_laws.proofs.Bits.{bit-or, bit_of_zero, bit_within, bit_low, mask_inside, mask_below}
use Rattle.ep_bit_laws.proofs.Numbers.{is_negative, sign_bit, unsigned_sign, sign_place_small, width_small}
use Rattle.ep_bit_laws.proofs.Numbers.{bit_wrapped, bit_wrapped_above}
use Rattle.ep_bit_laws.proofs.Patterns.{from_apart, HasBits, keeps_bit}

-- ---- the bits of the sign

pub sign_bits_below : (t : IntType) → sign_bits t < 2 ^ 65
sign_bits_below t = let p = pow_pos (sign_place t) in omega arith

pub in_sign : (t : IntType) (k : ℕ) → sign_place t ≤ k → k < 65 → bit (sign_bits t) k ≡ true
in_sign t k l m = mask_inside (sign_place t) 65 k l m

pub from_sign : (t : IntType) (k : ℕ) → bit (sign_bits t) k ≡ true → (sign_place t ≤ k) × (k < 65)
from_sign t k e = (at (cases_lt k (sign_place t)), bit_within (sign_bits t) 65 k (sign_bits_below t) e)
  where
    at : (k < sign_place t) ⊎ (sign_place t ≤ k) → sign_place t ≤ k
    at (inl l) = absurd (true_and_false _ e (mask_below (sign_place t) 65 k l))
    at (inr l) = l

pub unsigned_place : (t : IntType) → is_signed t ≡ false → sign_place t ≡ bits_of t
unsigned_place t e = ap (λ s. cond s (bits_of t - 1) (bits_of t)) e

-- ---- all numbers of a type

pub type_has : (t : IntType) (z : ℤ) → InRange t z → Has (type_pattern t) z
type_has t z h = record {
  number = in_range_some_type t z h;
  zeros = λ k e. zero (is_signed t) refl k e;
  ones = λ k e. absurd (true_and_false _ e (bit_of_zero k));
}
  where
    zero : (s : Bool) → is_signed t ≡ s → (k : ℕ) → bit (cond s 0 (sign_bits t)) k ≡ true → bit_of z k ≡ false
    zero true e k f = absurd (true_and_false _ f (bit_of_zero k))
    zero false e k f = sign_bit t z k h (from_sign t k f).0 ∙ unsigned_sign t z h e

pub type_is_pattern : (t : IntType) → IsPattern (type_pattern t)
type_is_pattern t = record {
  zeros_below = below (is_signed t);
  ones_below = omega arith;
  apart = λ k e. bit_of_zero k;
  negative = λ e. absurd (true_and_false _ e (bit_of_zero 64));
  small = λ e. small (is_signed t) e;
}
  where
    below : (s : Bool) → cond s 0 (sign_bits t) < 2 ^ 65
    below true = omega arith
    below false = sign_bits_below t

    small : (s : Bool) → bit (cond s 0 (sign_bits t)) 63 ≡ true → bit (cond s 0 (sign_bits t)) 64 ≡ true
    small true e = absurd (true_and_false _ e (bit_of_zero 63))
    small false e = in_sign t 64 (sign_place_small t) (omega arith)

-- ---- the numbers of a pattern that are of a type

pub in_type_zeros : (t : IntType) (p : Pattern) (k : ℕ) → bit p.zeros k ≡ true → bit (in_type t p).zeros k ≡ true
in_type_zeros t p k e = at (is_signed t && nat_eq (bit_and p.zeros (sign_bits t)) 0)
  where
    at : (b : Bool) → bit (cond b p.zeros (bit_or p.zeros (sign_bits t))) k ≡ true
    at true = e
    at false = keeps_bit p.zeros (sign_bits t) k e

pub in_type_ones : (t : IntType) (p : Pattern) (k : ℕ) → bit p.ones k ≡ true → bit (in_type t p).ones k ≡ true
in_type_ones t p k e = at (not (is_signed t) || nat_eq (bit_and p.ones (sign_bits t)) 0)
  where
    at : (b : Bool) → bit (cond b p.ones (bit_or p.ones (sign_bits t))) k ≡ true
    at true = e
    at false = keeps_bit p.ones (sign_bits t) k e

-- a bit that both masks have
some_bit : (a b : ℕ) → nat_eq (bit_and a b) 0 ≡ false → (((k : ℕ) → bit a k ≡ true → bit b k ≡ false) → ⊥)
some_bit a b e h = true_and_false _ (zero_is (bit_and a b) (from_apart a b h)) e
  where
    zero_is : (n : ℕ) → n ≡ 0 → nat_eq n 0 ≡ true
    zero_is n e = ap (λ m. nat_eq m 0) e

module _ (t : IntType) (p : Pattern) (z : ℤ) (i : IsPattern p) (h : Has p z) (r : InRange t z) where
  -- a known bit of the sign is the sign
  zero_sign : nat_eq (bit_and p.zeros (sign_bits t)) 0 ≡ false → is_negative z ≡ false
  zero_sign e = at (is_negative z) refl
    where
      at : (b : Bool) → is_negative z ≡ b → b ≡ false
      at false f = refl
      at true f = absurd (some_bit p.zeros (sign_bits t) e (λ k g. none k g (bit (sign_bits t) k) refl))
        where
          none : (k : ℕ) → bit p.zeros k ≡ true → (c : Bool) → bit (sign_bits t) k ≡ c → c ≡ false
          none k g false j = refl
          none k g true j = absurd (true_and_false _ (sign_bit t z k r (from_sign t k j).0 ∙ f) (h.zeros k g))

  one_sign : nat_eq (bit_and p.ones (sign_bits t)) 0 ≡ false → is_negative z ≡ true
  one_sign e = at (is_negative z) refl
    where
      at : (b : Bool) → is_negative z ≡ b → b ≡ true
      at true f = refl
      at false f = absurd (some_bit p.ones (sign_bits t) e (λ k g. none k g (bit (sign_bits t) k) refl))
        where
          none : (k : ℕ) → bit p.ones k ≡ true → (c : Bool) → bit (sign_bits t) k ≡ c → c ≡ false
          none k g false j = refl
          none k g true j = absurd (true_and_false _ (h.ones k g) (sign_bit t z k r (from_sign t k j).0 ∙ f))

  zeros_in : (s n : Bool) → is_signed t ≡ s → nat_eq (bit_and p.zeros (sign_bits t)) 0 ≡ n → (k : ℕ) → bit
      (cond (s && n) p.zeros (bit_or p.zeros (sign_bits t))) k ≡ true → bit_of z k ≡ false
  zeros_in true true e f k g = h.zeros k g
  zeros_in true false e f k g = by (or_cases _ _ (sym (bit-or p.zeros (sign_bits t) k) ∙ g))
    where
      by : (bit p.zeros k ≡ true) ⊎ (bit (sign_bits t) k ≡ true) → bit_of z k ≡ false
      by (inl j) = h.zeros k j
      by (inr j) = sign_bit t z k r (from_sign t k j).0 ∙ zero_sign f
  zeros_in false n e f k g = by (or_cases _ _ (sym (bit-or p.zeros (sign_bits t) k) ∙ g))
    where
      by : (bit p.zeros k ≡ true) ⊎ (bit (sign_bits t) k ≡ true) → bit_of z k ≡ false
      by (inl j) = h.zeros k j
      by (inr j) = sign_bit t z k r (from_sign t k j).0 ∙ unsigned_sign t z r e

  ones_in : (s n : Bool) → nat_eq (bit_and p.ones (sign_bits t)) 0 ≡ n → (k : ℕ) → bit
      (cond (not s || n) p.ones (bit_or p.ones (sign_bits t))) k ≡ true → bit_of z k ≡ true
  ones_in false n f k g = h.ones k g
  ones_in true true f k g = h.ones k g
  ones_in true false f k g = by (or_cases _ _ (sym (bit-or p.ones (sign_bits t) k) ∙ g))
    where
      by : (bit p.ones k ≡ true) ⊎ (bit (sign_bits t) k ≡ true) → bit_of z k ≡ true
      by (inl j) = h.ones k j
      by (inr j) = sign_bit t z k r (from_sign t k j).0 ∙ one_sign f

  pub in_type_has : HasBits (in_type t p) z
  in_type_has = record {
    zeros_below = zeros_small (is_signed t && nat_eq (bit_and p.zeros (sign_bits t)) 0);
    ones_below = ones_small (not (is_signed t) || nat_eq (bit_and p.ones (sign_bits t)) 0);
    has = record {
      number = h.number;
      zeros = λ k. zeros_in (is_signed t) (nat_eq (bit_and p.zeros (sign_bits t)) 0) refl refl k;
      ones = λ k. ones_in (is_signed t) (nat_eq (bit_and p.ones (sign_bits t)) 0) refl k;
    };
  }
    where
      zeros_small : (b : Bool) → cond b p.zeros (bit_or p.zeros (sign_bits t)) < 2 ^ 65
      zeros_small true = i.zeros_below
      zeros_small false = or_lt 65 p.zeros (sign_bits t) i.zeros_below (sign_bits_below t)

      ones_small : (b : Bool) → cond b p.ones (bit_or p.ones (sign_bits t)) < 2 ^ 65
      ones_small true = i.ones_below
      ones_small false = or_lt 65 p.ones (sign_bits t) i.ones_below (sign_bits_below t)

pub from_in_type : (t : IntType) (p : Pattern) (z : ℤ) → Has (in_type t p) z → Has p z
from_in_type t p z h = record {
  number = h.number;
  zeros = λ k e. h.zeros k
      (in_type_zeros t p k e);
  ones = λ k e. h.ones k (in_type_ones t p k e);
}

-- ---- the low bits, in an unsigned type

-- the low bits of a number are as the pattern says
pub record HasLow (w : ℕ) (p : Pattern) (z : ℤ) : Type 0 where
  pub zeros : (k : ℕ) → k < w → bit p.zeros k ≡ true → bit_of z k ≡ false
  pub ones : (k : ℕ) → k < w → bit p.ones k ≡ true → bit_of z k ≡ true

pub has_low : (w : ℕ) (p : Pattern) (z : ℤ) → Has p z → HasLow w p z
has_low w p z h = record { zeros = λ k l e. h.zeros k e; ones = λ k l e. h.ones k e }

pub low_part_has : (t : IntType) (p : Pattern) (z : ℤ) → is_signed t ≡ false → HasLow (bits_of t) p z → HasBits
    (low_part t p) (wrapped t z)
low_part_has t p z s h = record {
  zeros_below = or_lt 65 (p.zeros % 2 ^ bits_of t) (sign_bits t) (small p.zeros) (sign_bits_below t);
  ones_below = small p.ones;
  has = record {
    number = in_range_some_type t (wrapped t z) (wrapped_in_range t z);
    zeros = λ k e. zero k (or_cases _ _ (sym (bit-or (p.zeros % 2 ^ bits_of t) (sign_bits t) k) ∙ e));
    ones = λ k e. one k e (bit_within (p.ones % 2 ^ bits_of t) (bits_of t) k
        (mod_below p.ones (2 ^ bits_of t) (pow_pos (bits_of t))) e);
  };
}
  where
    small : (m : ℕ) → m % 2 ^ bits_of t < 2 ^ 65
    small m = let l = mod_below m (2 ^ bits_of t) (pow_pos (bits_of t)) in let u = pow_mono {i = bits_of t} {j = 65}
        (let w = (width_small t).1 in omega arith) in omega arith

    zero : (k : ℕ) → (bit (p.zeros % 2 ^ bits_of t) k ≡ true) ⊎ (bit (sign_bits t) k ≡ true) → bit_of
        (wrapped t z) k ≡ false
    zero k (inl e) =
        let l = bit_within (p.zeros % 2 ^ bits_of t) (bits_of t) k
        (mod_below p.zeros (2 ^ bits_of t) (pow_pos (bits_of t))) e in
        bit_wrapped t z k l ∙ h.zeros k l (sym (bit_low p.zeros (bits_of t) k l) ∙ e)
    zero k (inr e) = bit_wrapped_above t z k s (subst (λ n. n ≤ k) (unsigned_place t s) (from_sign t k e).0)

    one : (k : ℕ) → bit (p.ones % 2 ^ bits_of t) k ≡ true → k < bits_of t → bit_of (wrapped t z) k ≡ true
    one k e l = bit_wrapped t z k l ∙ h.ones k l (sym (bit_low p.ones (bits_of t) k l) ∙ e)
