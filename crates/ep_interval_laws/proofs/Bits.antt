-- Operators on bits, of numbers that are not negative.
use Rattle.std.specs.Prelude.{◌≡◌, ℕ, ◌+◌, ◌-◌, ◌*◌, ◌^◌, ◌<◌, ◌≤◌, ℤ, pos, negsuc, ◌≤ℤ◌, bit_and, bit_or, bit_xor}
use Rattle.std.specs.Prelude.{refl}
use Rattle.std.proofs.Common.{arith, ap, sym, ◌∙◌, subst}
use Rattle.std.proofs.Math.Nat.{mod-eq_of_lt, pow-le-pow_right}
use Rattle.std.proofs.lemmas.Nat.{and_le_l, and_le_r, or_lt, xor_lt, leading_length}
use Rattle.std.proofs.lemmas.Int.{ints}
use Rattle.ep_int.specs.declared.types.IntType.{IntType}
use Rattle.ep_int.specs.declared.types.IntType.TheVariants.{I8, U8, I16, U16, I32, U32, I64, U64}
use Rattle.ep_int.specs.Types.{bits_of, greatest_of, representation, represented}
use Rattle.ep_int.proofs.Wrapping.{represented_representation}
use Rattle.ep_range_laws.proofs.Types.{least_negative}
use Rattle.ep_interval_laws.specs.Results.{length_in_bits, ones_over}

-- the greatest number of a type is a run of ones
ones_of : IntType → ℕ
ones_of I8 = 7
ones_of U8 = 8
ones_of I16 = 15
ones_of U16 = 16
ones_of I32 = 31
ones_of U32 = 32
ones_of I64 = 63
ones_of U64 = 64

below_ones : (t : IntType) (n : ℕ) → pos n ≤ℤ greatest_of t → n < 2 ^ ones_of t
unfolding ones_of
below_ones I8 n h = omega (arith, ints)
below_ones U8 n h = omega (arith, ints)
below_ones I16 n h = omega (arith, ints)
below_ones U16 n h = omega (arith, ints)
below_ones I32 n h = omega (arith, ints)
below_ones U32 n h = omega (arith, ints)
below_ones I64 n h = omega (arith, ints)
below_ones U64 n h = omega (arith, ints)

ones_greatest : (t : IntType) (n : ℕ) → n < 2 ^ ones_of t → pos n ≤ℤ greatest_of t
unfolding ones_of
ones_greatest I8 n h = omega (arith, ints)
ones_greatest U8 n h = omega (arith, ints)
ones_greatest I16 n h = omega (arith, ints)
ones_greatest U16 n h = omega (arith, ints)
ones_greatest I32 n h = omega (arith, ints)
ones_greatest U32 n h = omega (arith, ints)
ones_greatest I64 n h = omega (arith, ints)
ones_greatest U64 n h = omega (arith, ints)

below_width : (t : IntType) (n : ℕ) → pos n ≤ℤ greatest_of t → n < 2 ^ bits_of t
below_width I8 n h = omega (arith, ints)
below_width U8 n h = omega (arith, ints)
below_width I16 n h = omega (arith, ints)
below_width U16 n h = omega (arith, ints)
below_width I32 n h = omega (arith, ints)
below_width U32 n h = omega (arith, ints)
below_width I64 n h = omega (arith, ints)
below_width U64 n h = omega (arith, ints)

-- a number that is not negative is its own bits
pub own_bits : (t : IntType) (n : ℕ) → pos n ≤ℤ greatest_of t → representation t (pos n) ≡ n
own_bits t n h = mod-eq_of_lt (below_width t n h)

pub from_bits : (t : IntType) (n : ℕ) → pos n ≤ℤ greatest_of t → represented t n ≡ pos n
from_bits t n h =
    ap (represented t) (sym (own_bits t n h)) ∙ represented_representation t (pos n) (record { low = let l = least_negative t in omega (arith, ints); high = h })

-- ---- And

pub and_left_part : (t : IntType) (a m : ℕ) → pos a ≤ℤ greatest_of t → represented t (bit_and (representation t (pos a)) m) ≡ pos (bit_and a m)
and_left_part t a m h =
    let l = and_le_l a m in
    ap (λ n. represented t (bit_and n m)) (own_bits t a h) ∙ from_bits t (bit_and a m) (omega (arith, ints))

pub and_right_part : (t : IntType) (m b : ℕ) → pos b ≤ℤ greatest_of t → represented t (bit_and m (representation t (pos b))) ≡ pos (bit_and m b)
and_right_part t m b h =
    let l = and_le_r m b in
    ap (λ n. represented t (bit_and m n)) (own_bits t b h) ∙ from_bits t (bit_and m b) (omega (arith, ints))

-- ---- Or and Xor

pub or_is : (t : IntType) (a b : ℕ) → pos a ≤ℤ greatest_of t → pos b ≤ℤ greatest_of t → represented t (bit_or (representation t (pos a)) (representation t (pos b))) ≡ pos (bit_or a b)
or_is t a b h k =
    ap (λ n. represented t (bit_or n (representation t (pos b)))) (own_bits t a h) ∙ ap (λ n. represented t (bit_or a n)) (own_bits t b k)
    ∙ from_bits t (bit_or a b) (ones_greatest t _ (or_lt (ones_of t) a b (below_ones t a h) (below_ones t b k)))

pub xor_is : (t : IntType) (a b : ℕ) → pos a ≤ℤ greatest_of t → pos b ≤ℤ greatest_of t → represented t (bit_xor (representation t (pos a)) (representation t (pos b))) ≡ pos (bit_xor a b)
xor_is t a b h k =
    ap (λ n. represented t (bit_xor n (representation t (pos b)))) (own_bits t a h) ∙ ap (λ n. represented t (bit_xor a n)) (own_bits t b k)
    ∙ from_bits t (bit_xor a b) (ones_greatest t _ (xor_lt (ones_of t) a b (below_ones t a h) (below_ones t b k)))

-- ---- the least power above

pub length_is : (n : ℕ) → n < 2 ^ 64 → (n < 2 ^ length_in_bits n) × ((2 ^ length_in_bits n ≤ 2 * n + 1) × (length_in_bits n ≤ 64))
length_is n h =
    let l = leading_length 64 n h in
    let e : length_in_bits n ≡ l.0 = let f = l.1 in omega arith in
    (subst (λ k. n < 2 ^ k) (sym e) l.2, (subst (λ k. 2 ^ k ≤ 2 * n + 1) (sym e) l.3, let f = l.1 in omega arith))

under_power : (n m k : ℕ) → n < 2 ^ k → m ≡ k → pos n ≤ℤ pos (2 ^ m - 1)
under_power n m k h e = subst (λ j. pos n ≤ℤ pos (2 ^ j - 1)) (sym e) (omega (arith, ints))

pub ones_below : (v : ℤ) → v ≤ℤ greatest_of U64 → pos 0 ≤ℤ v → ones_over v ≤ℤ greatest_of U64
ones_below (pos n) h p =
    let l = length_is n (omega (arith, ints)) in
    let m : 2 ^ length_in_bits n ≤ 2 ^ 64 = pow-le-pow_right {n = 2} (omega arith) l.1.1 in
    omega (arith, ints)
ones_below (negsuc n) h p = absurd (omega (arith, ints))

-- numbers up to one of at most 64 bits have together no more bits than it
pub or_below : (a b : ℕ) (v : ℤ) → pos a ≤ℤ v → pos b ≤ℤ v → v ≤ℤ greatest_of U64 → pos (bit_or a b) ≤ℤ ones_over v
or_below a b (pos n) p q h =
    let l = length_is n (omega (arith, ints)) in
    let f = l.0 in
    under_power (bit_or a b) (length_in_bits n) (length_in_bits n) (or_lt (length_in_bits n) a b (omega (arith, ints)) (omega (arith, ints))) refl
or_below a b (negsuc n) p q h = absurd (omega (arith, ints))

pub xor_below : (a b : ℕ) (v : ℤ) → pos a ≤ℤ v → pos b ≤ℤ v → v ≤ℤ greatest_of U64 → pos (bit_xor a b) ≤ℤ ones_over v
xor_below a b (pos n) p q h =
    let l = length_is n (omega (arith, ints)) in
    let f = l.0 in
    under_power (bit_xor a b) (length_in_bits n) (length_in_bits n) (xor_lt (length_in_bits n) a b (omega (arith, ints)) (omega (arith, ints))) refl
xor_below a b (negsuc n) p q h = absurd (omega (arith, ints))
