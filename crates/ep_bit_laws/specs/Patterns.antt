-- What is known of the bits of numbers, and what does not depend on an operator (this project's rules; the same masks
-- as in LLVM's KnownBits).
use Rattle.std.specs.Prelude.{ℕ, ◌-◌, ◌%◌, ◌^◌, ℤ, Bool, true, false, ◌&&◌, ◌||◌, not, if◌then◌else◌, Option, Some}
use Rattle.std.specs.Prelude.{None, nat_eq, nat_lt, int_le, bit_and, bit_or}
use Rattle.std.specs.Prelude.{◌≡◌, ◌<◌, count_ones}
use Rattle.ep_int.specs.declared.types.IntType.{IntType}
use Rattle.ep_int.specs.declared.types.IntType.TheVariants.{I64, U64}
use Rattle.ep_int.specs.Types.{bits_of, is_signed, least_of, greatest_of}
use Rattle.ep_int.specs.Arith.{IsOfSomeType}
use Rattle.ep_bit_laws.specs.Bits.{bit, bit_of, low_bits}

-- the bits, of 0 to 64, that are known to be 0 and those that are known to be 1
pub record Pattern : Type 0 where
  pub zeros : ℕ
  pub ones : ℕ

abbrev pub pattern : ℕ → ℕ → Pattern
pattern z o = record { zeros = z; ones = o }

-- what is known of a bit
abbrev pub known_bit : Pattern → ℕ → Option Bool
known_bit p k = if bit p.ones k then Some true else if bit p.zeros k then Some false else None

-- a number of some integer type
abbrev pub is_number : ℤ → Bool
is_number z = int_le (least_of I64) z && int_le z (greatest_of U64)

abbrev pub matches : Pattern → ℕ → Bool
matches p n = nat_eq (bit_and n p.zeros) 0 && nat_eq (bit_and n p.ones) p.ones

abbrev pub has : Pattern → ℤ → Bool
has p z = is_number z && matches p (low_bits z)

-- the number is of some integer type and has these bits
pub record Has (p : Pattern) (z : ℤ) : Type 0 where
  pub number : IsOfSomeType z
  pub zeros : (k : ℕ) → bit p.zeros k ≡ true → bit_of z k ≡ false
  pub ones : (k : ℕ) → bit p.ones k ≡ true → bit_of z k ≡ true

-- A pattern that a value may be: no bit is known as both, and every unknown bit takes both values. So where bit 64 is
-- 1, bit 63 is, and where bit 63 is 0, bit 64 is.
abbrev pub is_pattern : ℕ → ℕ → Bool
is_pattern z o =
    (nat_lt z (2 ^ 65) && nat_lt o (2 ^ 65))
    && (nat_eq (bit_and z o) 0 && ((not (bit o 64) || bit o 63) && (not (bit z 63) || bit z 64)))

pub record IsPattern (p : Pattern) : Type 0 where
  pub zeros_below : p.zeros < 2 ^ 65
  pub ones_below : p.ones < 2 ^ 65
  pub apart : (k : ℕ) → bit p.zeros k ≡ true → bit p.ones k ≡ false
  pub negative : bit p.ones 64 ≡ true → bit p.ones 63 ≡ true
  pub small : bit p.zeros 63 ≡ true → bit p.zeros 64 ≡ true

-- with what that says of bits 63 and 64
abbrev pub closed : Pattern → Pattern
closed p = pattern
    (if bit p.zeros 63 then bit_or p.zeros (2 ^ 64) else p.zeros)
    (if bit p.ones 64 then bit_or p.ones (2 ^ 63) else p.ones)

-- nothing is known
abbrev pub unknown : Pattern
unknown = pattern 0 0

-- all bits are those of one number
abbrev pub exactly : ℤ → Pattern
exactly v = pattern (2 ^ 65 - 1 - low_bits v) (low_bits v)

-- ---- inclusion, joins

-- all that the second knows the first knows too
abbrev pub is_within : Pattern → Pattern → Bool
is_within p q = nat_eq (bit_and p.zeros q.zeros) q.zeros && nat_eq (bit_and p.ones q.ones) q.ones

-- what both know
abbrev pub common : Pattern → Pattern → Pattern
common p q = pattern (bit_and p.zeros q.zeros) (bit_and p.ones q.ones)

-- what one of them knows
abbrev pub joint : Pattern → Pattern → Pattern
joint p q = pattern (bit_or p.zeros q.zeros) (bit_or p.ones q.ones)

-- how many bits are known
abbrev pub rank_of : Pattern → ℕ
rank_of p = count_ones (bit_or p.zeros p.ones)

-- ---- types

-- the numbers of a type have from this bit on the bits of their sign
abbrev pub sign_place : IntType → ℕ
sign_place t = if is_signed t then bits_of t - 1 else bits_of t

abbrev pub sign_bits : IntType → ℕ
sign_bits t = 2 ^ 65 - 2 ^ sign_place t

abbrev pub type_pattern : IntType → Pattern
type_pattern t = pattern (if is_signed t then 0 else sign_bits t) 0

-- of the numbers of the type: if one of the bits of the sign is known, all are
abbrev pub in_type : IntType → Pattern → Pattern
in_type t p = pattern
    (if is_signed t && nat_eq (bit_and p.zeros (sign_bits t)) 0 then p.zeros else bit_or p.zeros (sign_bits t))
    (if not (is_signed t) || nat_eq (bit_and p.ones (sign_bits t)) 0 then p.ones else bit_or p.ones (sign_bits t))

-- the low bits, as a number of an unsigned type
abbrev pub low_part : IntType → Pattern → Pattern
low_part t p = pattern (bit_or (p.zeros % 2 ^ bits_of t) (sign_bits t)) (p.ones % 2 ^ bits_of t)
