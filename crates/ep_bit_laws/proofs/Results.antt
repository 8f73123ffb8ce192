-- What an operator gives has the bits of its pattern.
use Rattle.std.proofs.Common.{◌≡◌, ℕ, ◌+◌, ◌-◌, ◌*◌, ◌/◌, ◌%◌, ◌^◌, ◌<◌, ◌≤◌, ℤ, pos, ◌+ℤ◌, ◌-ℤ◌, ◌*ℤ◌, Bool, true}
use Rattle.ep_congruence_laws.proofs.Results.{difference_members, sum_members}
use Rattle.ep_int.proofs.Basics.{true_and_false, plus-zero}
use Rattle.std.proofs.lemmas.Bool.{not-true}
use Rattle.std.proofs.Common.{false, ◌&&◌, ◌||◌, cond, nat_eq, bit_and, bit_or, ◌⊎◌, inl, inr, arith, refl, sym}
use Rattle.std.proofs.Common.{ap, ◌∙◌, subst}
use Rattle.std.specs.Prelude.{bit_xor, min}
use Rattle.std.specs.Int.{w128, trailing_ones, int_shr}
use Rattle.std.proofs.Math.IntN.{*ℤ_comm}
use Rattle.std.proofs.lemmas.Nat.{or_lt, xor_lt, and_le_l, pow_pos, mod_below}
use Rattle.std.proofs.lemmas.Nat.Bits.{bit_at_cat_low, bit_at_cat_high, bit_at-trailing_ones}
use Rattle.std.proofs.Math.Pow.{pow_mono}
use Rattle.std.proofs.lemmas.Bool.{cases_lt, and_parts, and_from, or_cases, or_left, or_right}
use Rattle.ep_int.specs.declared.types.IntType.{IntType}
use Rattle.ep_int.specs.declared.types.BinOp.{BinOp}
use Rattle.ep_int.specs.declared.types.BinOp.TheVariants.{Add, Sub, Mul, Div, Rem, And, Or, Xor, Shl, Shr}
use Rattle.ep_int.specs.Types.{bits_of, is_signed, InRange, residue, representation, represented, wrapped}
use Rattle.ep_int.specs.Arith.{IsOfSomeType}
use Rattle.ep_int.proofs.Wrapping.{residue_below, representation_below}
use Rattle.ep_congruence_laws.specs.Multiples.{IsMultiple}
use Rattle.ep_congruence_laws.proofs.Multiples.{times_difference, multiple_sum, multiple_difference, multiple_product}
use Rattle.ep_congruence_laws.proofs.Classes.{residue_multiple, residue_same, chain}
use Rattle.ep_bit_laws.specs.Bits.{bit, bit_of}
use Rattle.ep_bit_laws.specs.Patterns.{Pattern, pattern, Has, IsPattern, sign_place, type_pattern}
use Rattle.ep_bit_laws.specs.Results.{both_of, either_of, one_of, shifted_down, right_by, left_by, known, low_known}
use Rattle.ep_bit_laws.specs.Results.{exact_of, low_result, with_low, by_low_bits}
use Rattle.ep_bit_laws.proofs.Bits.{same_below, bit-and, bit-or, bit-xor, differ, bit_of_zero, bit_within, bit_low}
use Rattle.ep_bit_laws.proofs.Bits.{bit_shifted, bit_turned, mask_below}
use Rattle.ep_bit_laws.proofs.Numbers.{sign_bit, unsigned_sign, width_small, bit_residue, bit_represented}
use Rattle.ep_bit_laws.proofs.Numbers.{bit_represented_above, bit_above_all, bit_of_shifted, bit_wrapped}
use Rattle.ep_bit_laws.proofs.Patterns.{HasBits}
use Rattle.ep_bit_laws.proofs.Types.{type_has, type_is_pattern, low_part_has}

-- ---- bit by bit

-- an operator on the bits of numbers
pub record IsBitwise (g : ℕ → ℕ → ℕ) (f : Bool → Bool → Bool) : Type 0 where
  pub none : f false false ≡ false
  pub each : (a b k : ℕ) → bit (g a b) k ≡ f (bit a k) (bit b k)
  pub below : (w a b : ℕ) → a < 2 ^ w → b < 2 ^ w → g a b < 2 ^ w

and_below : (w a b : ℕ) → a < 2 ^ w → b < 2 ^ w → bit_and a b < 2 ^ w
and_below w a b p q = let l = and_le_l a b in omega arith

pub and_bitwise : IsBitwise bit_and (λ a b. a && b)
and_bitwise = record { none = refl; each = bit-and; below = and_below }

pub or_bitwise : IsBitwise bit_or (λ a b. a || b)
or_bitwise = record { none = refl; each = bit-or; below = or_lt }

pub xor_bitwise : IsBitwise bit_xor differ
xor_bitwise = record { none = refl; each = bit-xor; below = xor_lt }

module _ (g : ℕ → ℕ → ℕ) (f : Bool → Bool → Bool) (w : IsBitwise g f) (t : IntType) (x y : ℤ) (p : InRange t x)
    (q : InRange t y) where
  -- each bit of the result is that of the bits
  pub bit_of_result : (k : ℕ) → bit_of (represented t (g (representation t x) (representation t y))) k ≡ f
      (bit_of x k) (bit_of y k)
  bit_of_result k = at (cases_lt k (bits_of t))
    where
      n : ℕ
      n = g (representation t x) (representation t y)

      small : g (representation t x) (representation t y) < 2 ^ bits_of t
      small = w.below (bits_of t) _ _ (representation_below t x) (representation_below t y)

      low : (j : ℕ) → j < bits_of t → bit (g (representation t x) (representation t y)) j ≡ f (bit_of x j) (bit_of y j)
      low j l = w.each _ _ j ∙ ap (λ b. f b (bit (representation t y) j)) (bit_residue (bits_of t) x j l) ∙ ap
          (f (bit_of x j)) (bit_residue (bits_of t) y j l)

      above : (s : Bool) → is_signed t ≡ s → bits_of t ≤ k →
          (s && bit (g (representation t x) (representation t y)) (bits_of t - 1)) ≡ f (bit_of x k) (bit_of y k)
      above true e l =
          let i : sign_place t ≡ bits_of t - 1 = ap (λ s. cond s (bits_of t - 1) (bits_of t)) e in
          let v = (width_small t).0 in
          low (bits_of t - 1) (omega arith)
          ∙ ap (λ b. f b (bit_of y (bits_of t - 1)))
          (sign_bit t x (bits_of t - 1) p (omega arith) ∙ sym (sign_bit t x k p (omega arith)))
          ∙ ap (f (bit_of x k)) (sign_bit t y (bits_of t - 1) q (omega arith) ∙ sym (sign_bit t y k q (omega arith)))
      above false e l =
          let i : sign_place t ≡ bits_of t = ap (λ s. cond s (bits_of t - 1) (bits_of t)) e in
          sym (ap (λ b. f b (bit_of y k)) (sign_bit t x k p (omega arith) ∙ unsigned_sign t x p e) ∙ ap (f false)
          (sign_bit t y k q (omega arith) ∙ unsigned_sign t y q e) ∙ w.none)

      at : (k < bits_of t) ⊎ (bits_of t ≤ k) → bit_of
          (represented t (g (representation t x) (representation t y))) k ≡ f (bit_of x k) (bit_of y k)
      at (inl l) = bit_represented t (g (representation t x) (representation t y)) k small l ∙ low k l
      at (inr l) = bit_represented_above t (g (representation t x) (representation t y)) k small l ∙ above
          (is_signed t) refl l

-- of both operands what has to be known
module _ (p q : Pattern) (x y v : ℤ) (i : IsPattern p) (j : IsPattern q) (h : Has p x) (m : Has q y)
    (n : IsOfSomeType v) where
  pub both_has : ((k : ℕ) → bit_of v k ≡ (bit_of x k && bit_of y k)) → HasBits (both_of p q) v
  both_has e = record {
    zeros_below = or_lt 65 p.zeros q.zeros i.zeros_below j.zeros_below;
    ones_below = and_below 65 p.ones q.ones i.ones_below j.ones_below;
    has = record {
      number = n;
      zeros = λ k f. e k ∙ zero k (or_cases _ _ (sym (bit-or p.zeros q.zeros k) ∙ f));
      ones = λ k f. let s = and_parts (bit p.ones k) (bit q.ones k) (sym (bit-and p.ones q.ones k) ∙ f) in e k
          ∙ and_from _ _ (h.ones k s.0) (m.ones k s.1);
    };
  }
    where
      right : (a b : Bool) → b ≡ false → (a && b) ≡ false
      right true b f = f
      right false b f = refl

      zero : (k : ℕ) → (bit p.zeros k ≡ true) ⊎ (bit q.zeros k ≡ true) → (bit_of x k && bit_of y k) ≡ false
      zero k (inl f) = ap (λ b. b && bit_of y k) (h.zeros k f)
      zero k (inr f) = right (bit_of x k) (bit_of y k) (m.zeros k f)

  pub either_has : ((k : ℕ) → bit_of v k ≡ (bit_of x k || bit_of y k)) → HasBits (either_of p q) v
  either_has e = record {
    zeros_below = and_below 65 p.zeros q.zeros i.zeros_below j.zeros_below;
    ones_below = or_lt 65 p.ones q.ones i.ones_below j.ones_below;
    has = record {
      number = n;
      zeros = λ k f. let s = and_parts (bit p.zeros k) (bit q.zeros k) (sym (bit-and p.zeros q.zeros k) ∙ f) in e k
          ∙ ap (λ b. b || bit_of y k) (h.zeros k s.0) ∙ m.zeros k s.1;
      ones = λ k f. e k ∙ one k (or_cases _ _ (sym (bit-or p.ones q.ones k) ∙ f));
    };
  }
    where
      one : (k : ℕ) → (bit p.ones k ≡ true) ⊎ (bit q.ones k ≡ true) → (bit_of x k || bit_of y k) ≡ true
      one k (inl f) = or_left _ _ (h.ones k f)
      one k (inr f) = or_right (bit_of x k) _ (m.ones k f)

  pub one_has : ((k : ℕ) → bit_of v k ≡ differ (bit_of x k) (bit_of y k)) → HasBits (one_of p q) v
  one_has e = record {
    zeros_below = or_lt 65 _ _ (and_below 65 p.zeros q.zeros i.zeros_below j.zeros_below)
        (and_below 65 p.ones q.ones i.ones_below j.ones_below);
    ones_below = or_lt 65 _ _ (and_below 65 p.zeros q.ones i.zeros_below j.ones_below)
        (and_below 65 p.ones q.zeros i.ones_below j.zeros_below);
    has = record {
      number = n;
      zeros = λ k f. e k ∙ zero k (or_cases _ _ (sym (bit-or (bit_and p.zeros q.zeros) (bit_and p.ones q.ones) k)
          ∙ f));
      ones = λ k f. e k ∙ one k (or_cases _ _ (sym (bit-or (bit_and p.zeros q.ones) (bit_and p.ones q.zeros) k) ∙ f));
    };
  }
    where
      two : (a b c d : Bool) → a ≡ c → b ≡ d → differ a b ≡ differ c d
      two a b c d f g = ap (λ x. differ x b) f ∙ ap (differ c) g

      zero : (k : ℕ) → (bit (bit_and p.zeros q.zeros) k ≡ true) ⊎ (bit (bit_and p.ones q.ones) k ≡ true) → differ
          (bit_of x k) (bit_of y k) ≡ false
      zero k (inl f) = let s = and_parts (bit p.zeros k) (bit q.zeros k)
          (sym (bit-and p.zeros q.zeros k) ∙ f) in two _ _ false false (h.zeros k s.0) (m.zeros k s.1)
      zero k (inr f) = let s = and_parts (bit p.ones k) (bit q.ones k)
          (sym (bit-and p.ones q.ones k) ∙ f) in two _ _ true true (h.ones k s.0) (m.ones k s.1)

      one : (k : ℕ) → (bit (bit_and p.zeros q.ones) k ≡ true) ⊎ (bit (bit_and p.ones q.zeros) k ≡ true) → differ
          (bit_of x k) (bit_of y k) ≡ true
      one k (inl f) = let s = and_parts (bit p.zeros k) (bit q.ones k)
          (sym (bit-and p.zeros q.ones k) ∙ f) in two _ _ false true (h.zeros k s.0) (m.ones k s.1)
      one k (inr f) = let s = and_parts (bit p.ones k) (bit q.zeros k)
          (sym (bit-and p.ones q.zeros k) ∙ f) in two _ _ true false (h.ones k s.0) (m.zeros k s.1)

-- ---- shifts

shifted_below : (n m : ℕ) → m < 2 ^ 65 → shifted_down n m < 2 ^ 65
shifted_below n m h = or_lt 65 (m / 2 ^ n) _ (let l = quotient m (2 ^ n) in omega arith) (fill (bit m 64))
  where
    quotient : (a b : ℕ) → a / b ≤ a
    quotient a b = omega arith

    fill : (b : Bool) → cond b (2 ^ 65 - 2 ^ (65 - n)) 0 < 2 ^ 65
    fill true = let l = pow_pos (65 - n) in omega arith
    fill false = omega arith

-- a bit that is shifted in or filled
pub from_shifted : (n m k : ℕ) → n ≤ 64 → bit (shifted_down n m) k ≡ true → (bit m (n + k) ≡ true) ⊎
    ((bit m 64 ≡ true) × (65 ≤ n + k))
from_shifted n m k l e = by (or_cases _ _ (sym (bit-or (m / 2 ^ n) (cond (bit m 64) (2 ^ 65 - 2 ^ (65 - n)) 0) k) ∙ e))
  where
    filled : (b : Bool) → bit (cond b (2 ^ 65 - 2 ^ (65 - n)) 0) k ≡ true → (b ≡ true) × (65 ≤ n + k)
    filled true f = (refl, at (cases_lt k (65 - n)))
      where
        at : (k < 65 - n) ⊎ (65 - n ≤ k) → 65 ≤ n + k
        at (inl u) = absurd (true_and_false _ f (mask_below (65 - n) 65 k u))
        at (inr u) = omega arith
    filled false f = absurd (true_and_false _ f (bit_of_zero k))

    by : (bit (m / 2 ^ n) k ≡ true) ⊎ (bit (cond (bit m 64) (2 ^ 65 - 2 ^ (65 - n)) 0) k ≡ true) →
        (bit m (n + k) ≡ true) ⊎ ((bit m 64 ≡ true) × (65 ≤ n + k))
    by (inl f) = inl (sym (bit_shifted m n k) ∙ f)
    by (inr f) = inr (filled (bit m 64) f)

pub right_has : (n : ℕ) (p : Pattern) (x : ℤ) → n ≤ 64 → IsPattern p → Has p x → IsOfSomeType (int_shr x n) → HasBits
    (right_by n p) (int_shr x n)
right_has n p x l i h m = record {
  zeros_below = shifted_below n p.zeros i.zeros_below;
  ones_below = shifted_below n p.ones i.ones_below;
  has = record {
    number = m;
    zeros = λ k e. bit_of_shifted x n k ∙ zero k (from_shifted n p.zeros k l e);
    ones = λ k e. bit_of_shifted x n k ∙ one k (from_shifted n p.ones k l e);
  };
}
  where
    zero : (k : ℕ) → (bit p.zeros (n + k) ≡ true) ⊎ ((bit p.zeros 64 ≡ true) × (65 ≤ n + k)) → bit_of x (n + k) ≡ false
    zero k (inl e) = h.zeros (n + k) e
    zero k (inr e) = bit_above_all x (n + k) h.number (let u = e.1 in omega arith) ∙ h.zeros 64 e.0

    one : (k : ℕ) → (bit p.ones (n + k) ≡ true) ⊎ ((bit p.ones 64 ≡ true) × (65 ≤ n + k)) → bit_of x (n + k) ≡ true
    one k (inl e) = h.ones (n + k) e
    one k (inr e) = bit_above_all x (n + k) h.number (let u = e.1 in omega arith) ∙ h.ones 64 e.0

-- the bits of a product by a power of 2
pub bit_moved_low : (a n r k : ℕ) → k < n → bit (a * 2 ^ n + r) k ≡ bit r k
bit_moved_low a n r k l = ap (λ d. nat_eq d 1) (bit_at_cat_low a n r k l)

pub bit_moved_high : (a n r k : ℕ) → r < 2 ^ n → n ≤ k → bit (a * 2 ^ n + r) k ≡ bit a (k - n)
bit_moved_high a n r k h l = ap (λ d. nat_eq d 1) (bit_at_cat_high a n r k h l)

pub product_low : (a n k : ℕ) → k < n → bit (a * 2 ^ n) k ≡ false
product_low a n k l = ap (λ m. bit m k) (plus-zero (a * 2 ^ n)) ∙ bit_moved_low a n 0 k l ∙ bit_of_zero k

pub product_high : (a n k : ℕ) → n ≤ k → bit (a * 2 ^ n) k ≡ bit a (k - n)
product_high a n k l = ap (λ m. bit m k) (plus-zero (a * 2 ^ n)) ∙ bit_moved_high a n 0 k (pow_pos n) l

pub left_has : (t : IntType) (n a : ℕ) (p : Pattern) → is_signed t ≡ false → Has p (pos a) → HasBits (left_by t n p)
    (wrapped t (pos (a * 2 ^ n)))
left_has t n a p s h = low_part_has t (pattern (p.zeros * 2 ^ n + (2 ^ n - 1)) (p.ones * 2 ^ n)) (pos (a * 2 ^ n)) s
    (record { zeros = λ k l e. zero k e (cases_lt k n); ones = λ k l e. one k e (cases_lt k n) })
  where
    ones_small : 2 ^ n - 1 < 2 ^ n
    ones_small = let l = pow_pos n in omega arith

    zero : (k : ℕ) → bit (p.zeros * 2 ^ n + (2 ^ n - 1)) k ≡ true → (k < n) ⊎ (n ≤ k) → bit (a * 2 ^ n) k ≡ false
    zero k e (inl l) = product_low a n k l
    zero k e (inr l) = product_high a n k l ∙ h.zeros (k - n)
        (sym (bit_moved_high p.zeros n (2 ^ n - 1) k ones_small l) ∙ e)

    one : (k : ℕ) → bit (p.ones * 2 ^ n) k ≡ true → (k < n) ⊎ (n ≤ k) → bit (a * 2 ^ n) k ≡ true
    one k e (inl l) = absurd (true_and_false _ e (product_low p.ones n k l))
    one k e (inr l) = product_high a n k l ∙ h.ones (k - n) (sym (product_high p.ones n k l) ∙ e)

-- ---- low bits

pub with_low_has : (t : IntType) (n r : ℕ) (v : ℤ) → n ≤ 64 → InRange t v → r ≡ residue (2 ^ n) v → HasBits
    (with_low t n r) v
with_low_has t n r v l h e = record {
  zeros_below = let w = wide in or_lt 65 (2 ^ n - 1 - r) (type_pattern t).zeros (omega arith)
      (type_is_pattern t).zeros_below;
  ones_below = let w = wide in let s = small in omega arith;
  has = record {
    number = (type_has t v h).number;
    zeros = λ k f. zero k (or_cases _ _ (sym (bit-or (2 ^ n - 1 - r) (type_pattern t).zeros k) ∙ f));
    ones = λ k f. sym (same k (bit_within r n k small f)) ∙ f;
  };
}
  where
    small : r < 2 ^ n
    small = subst (λ m. m < 2 ^ n) (sym e) (residue_below (2 ^ n) v (pow_pos n))

    wide : 2 ^ n ≤ 2 ^ 64
    wide = pow_mono {i = n} {j = 64} l

    same : (k : ℕ) → k < n → bit r k ≡ bit_of v k
    same k m = ap (λ i. bit i k) e ∙ bit_residue n v k m

    zero : (k : ℕ) → (bit (2 ^ n - 1 - r) k ≡ true) ⊎ (bit (type_pattern t).zeros k ≡ true) → bit_of v k ≡ false
    zero k (inl f) = let z = pow_pos n in let m = bit_within (2 ^ n - 1 - r) n k (omega arith) f in sym (same k m)
        ∙ not-true _ (sym (bit_turned n r k small m) ∙ f)
    zero k (inr f) = (type_has t v h).zeros k f

-- bits below the count are known
low_bits_known : (K i : ℕ) → K < 2 ^ 65 → i < trailing_ones w128 K → bit K i ≡ true
low_bits_known K i h l = ap (λ d. nat_eq d 1) ((bit_at-trailing_ones w128 K (omega arith)).2 i l)

known_below : (p : Pattern) → IsPattern p → known p < 2 ^ 65
known_below p i = or_lt 65 p.zeros p.ones i.zeros_below i.ones_below

pub low_is_known : (t : IntType) (p q : Pattern) (k : ℕ) → IsPattern p → IsPattern q → k < low_known t p q →
    (bit (known p) k ≡ true) × (bit (known q) k ≡ true)
low_is_known t p q k i j l =
    and_parts (bit (known p) k) (bit (known q) k) (sym (bit-and (known p) (known q) k) ∙ low_bits_known
    (bit_and (known p) (known q)) k (and_below 65 (known p) (known q) (known_below p i) (known_below q j))
    (below (trailing_ones w128 (bit_and (known p) (known q))) (bits_of t - 1) k l))
  where
    below : (a b k : ℕ) → k < min a b → k < a
    below a b k l = omega arith

pub low_narrow : (t : IntType) (p q : Pattern) → low_known t p q < bits_of t
low_narrow t p q = below (trailing_ones w128 (bit_and (known p) (known q))) (bits_of t) (width_small t).0
  where
    below : (a b : ℕ) → 1 ≤ b → min a (b - 1) < b
    below a b l = omega arith

-- of a number with the low n bits known, what is left at 2^n is known
pub residue_known : (n : ℕ) (p : Pattern) (x : ℤ) → IsPattern p → Has p x → ((k : ℕ) → k < n → bit (known p) k ≡ true)
    → residue (2 ^ n) x ≡ p.ones % 2 ^ n
residue_known n p x i h f = same_below n (residue (2 ^ n) x) (p.ones % 2 ^ n) (residue_below (2 ^ n) x (pow_pos n))
    (mod_below p.ones (2 ^ n) (pow_pos n)) (λ k l. bit_residue n x k l ∙ at k
    (or_cases _ _ (sym (bit-or p.zeros p.ones k) ∙ f k l)) ∙ sym (bit_low p.ones n k l))
  where
    at : (k : ℕ) → (bit p.zeros k ≡ true) ⊎ (bit p.ones k ≡ true) → bit_of x k ≡ bit p.ones k
    at k (inl e) = h.zeros k e ∙ sym (i.apart k e)
    at k (inr e) = h.ones k e ∙ sym e

-- ---- exact results at a modulus

product_differ : (m : ℕ) (x y a b : ℤ) → IsMultiple m (x -ℤ a) → IsMultiple m (y -ℤ b) → IsMultiple m
    ((x *ℤ y) -ℤ (a *ℤ b))
product_differ m x y a b h k =
    chain m (x *ℤ y) (a *ℤ y) (a *ℤ b) (subst (IsMultiple m) (times_difference x a y)
    (multiple_product m (x -ℤ a) y h))
    (subst (IsMultiple m) (times_difference y b a ∙ two (y *ℤ a) (a *ℤ y) (b *ℤ a) (a *ℤ b) (*ℤ_comm y a)
    (*ℤ_comm b a)) (multiple_product m (y -ℤ b) a k))
  where
    two : (a b c d : ℤ) → a ≡ b → c ≡ d → a -ℤ c ≡ b -ℤ d
    two a b c d e f = ap (λ z. z -ℤ c) e ∙ ap (λ z. b -ℤ z) f

exact_differ : (o : BinOp) (m : ℕ) (x y a b : ℤ) → IsMultiple m (x -ℤ a) → IsMultiple m (y -ℤ b) → IsMultiple m
    (exact_of o x y -ℤ exact_of o a b)
exact_differ Add m x y a b h k = subst (IsMultiple m) (sum_members x y a b) (multiple_sum m (x -ℤ a) (y -ℤ b) h k)
exact_differ Sub m x y a b h k = subst (IsMultiple m) (difference_members x y a b)
    (multiple_difference m (x -ℤ a) (y -ℤ b) h k)
exact_differ Mul m x y a b h k = product_differ m x y a b h k
exact_differ Div m x y a b h k = product_differ m x y a b h k
exact_differ Rem m x y a b h k = product_differ m x y a b h k
exact_differ And m x y a b h k = product_differ m x y a b h k
exact_differ Or m x y a b h k = product_differ m x y a b h k
exact_differ Xor m x y a b h k = product_differ m x y a b h k
exact_differ Shl m x y a b h k = product_differ m x y a b h k
exact_differ Shr m x y a b h k = product_differ m x y a b h k

pub low_result_is : (o : BinOp) (n : ℕ) (p q : Pattern) (x y : ℤ) → residue (2 ^ n) x ≡ p.ones % 2 ^ n → residue
    (2 ^ n) y ≡ q.ones % 2 ^ n → low_result o n p q ≡ residue (2 ^ n) (exact_of o x y)
low_result_is o n p q x y e f =
    sym (residue_same (2 ^ n) (exact_of o x y) (exact_of o (pos (p.ones % 2 ^ n)) (pos (q.ones % 2 ^ n))) (pow_pos n)
    (exact_differ o (2 ^ n) x y (pos (p.ones % 2 ^ n)) (pos (q.ones % 2 ^ n)) (left x (p.ones % 2 ^ n) e)
    (left y (q.ones % 2 ^ n) f)))
  where
    left : (x : ℤ) (r : ℕ) → residue (2 ^ n) x ≡ r → IsMultiple (2 ^ n) (x -ℤ pos r)
    left x r e = subst (λ (i : ℕ). IsMultiple (2 ^ n) (x -ℤ pos i)) e (residue_multiple (2 ^ n) x (pow_pos n))

-- conversion leaves the low bits
pub residue_wrapped : (t : IntType) (n : ℕ) (z : ℤ) → n ≤ bits_of t → residue (2 ^ n) (wrapped t z) ≡ residue (2 ^ n) z
residue_wrapped t n z l = same_below n _ _ (residue_below (2 ^ n) (wrapped t z) (pow_pos n))
    (residue_below (2 ^ n) z (pow_pos n)) (λ k m. bit_residue n (wrapped t z) k m ∙ bit_wrapped t z k (omega arith)
    ∙ sym (bit_residue n z k m))

pub low_bits_has : (o : BinOp) (t : IntType) (p q : Pattern) (x y v : ℤ) → IsPattern p → IsPattern q → Has p x
    → Has q y → InRange t v → ((n : ℕ) → n ≤ bits_of t → residue (2 ^ n) v ≡ residue (2 ^ n) (exact_of o x y))
    → HasBits (by_low_bits o t p q) v
low_bits_has o t p q x y v i j h k r e =
    let n : ℕ = low_known t p q in
    let l = low_narrow t p q in
    let w = (width_small t).1 in
    with_low_has t (low_known t p q) (low_result o (low_known t p q) p q) v (omega arith) r
    (low_result_is o (low_known t p q) p q x y (residue_known (low_known t p q) p x i h
    (λ k l. (low_is_known t p q k i j l).0)) (residue_known (low_known t p q) q y j k
    (λ k l. (low_is_known t p q k i j l).1))
    ∙ sym (e (low_known t p q) (omega arith)))
