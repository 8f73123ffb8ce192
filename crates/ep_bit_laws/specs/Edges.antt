-- The least and the greatest number of a pattern between two numbers.
use Rattle.std.specs.Prelude.{ℕ, zero, suc, ◌+◌, ◌-◌, ◌%◌, ◌^◌, ℤ, pos, negsuc, Bool, true, false, if◌then◌else◌}
use Rattle.std.specs.Prelude.{Option, Some, None, int_le}
use Rattle.std.specs.Option.{option_map}
use Rattle.std.specs.Int.{int_min, int_max}
use Rattle.ep_int.specs.declared.types.IntType.TheVariants.{I64, U64}
use Rattle.ep_int.specs.Types.{least_of, greatest_of}
use Rattle.ep_bit_laws.specs.Bits.{bit}
use Rattle.ep_bit_laws.specs.Patterns.{Pattern}

-- With one bit more, of the weight w. c is the number's bit, z and o are whether it has to be 0 or 1, low is the least
-- number of the bits below, found the least from the number on.
abbrev pub with_bit : (c z o : Bool) → (w low : ℕ) → Option ℕ → Option ℕ
with_bit true true o w low found = None
with_bit true false o w low found = option_map (λ m. w + m) found
with_bit false z true w low found = Some (w + low)
with_bit false z false w low (Some m) = Some m
with_bit false true false w low None = None
with_bit false false false w low None = Some (w + low)

-- the least number of k bits with these bits that is not below the low k bits of n
unfoldable pub first_at : (zeros ones n k : ℕ) → Option ℕ
first_at z o n zero = Some 0
first_at z o n (suc k) = with_bit (bit n k) (bit z k) (bit o k) (2 ^ k) (o % 2 ^ k) (first_at z o n k)

-- the least one that is not negative
abbrev pub least_positive : (zeros ones : ℕ) → Option ℤ
least_positive z o = if bit o 64 then None else Some (pos (o % 2 ^ 64))

-- with the bits of 64 bits below the sign, negative
abbrev pub below_zero : ℕ → ℤ
below_zero m = negsuc (2 ^ 64 - 1 - m)

abbrev pub or_positive : (zeros ones : ℕ) → Option ℤ → Option ℤ
or_positive z o (Some v) = Some v
or_positive z o None = least_positive z o

-- the least negative one, from the 64 bits below the sign of a number on
abbrev pub first_negative : (zeros ones n : ℕ) → Option ℤ
first_negative z o n = if bit z 64 then None else option_map below_zero (first_at z o n 64)

-- the least number of 65 bits with these bits, from a number on
abbrev pub first_from : (zeros ones : ℕ) → ℤ → Option ℤ
first_from z o (pos n) = if bit o 64 then None else option_map pos (first_at z o n 64)
first_from z o (negsuc n) = or_positive z o (first_negative z o (2 ^ 64 - 1 - n))

-- every bit turned
abbrev pub turned : ℤ → ℤ
turned (pos n) = negsuc n
turned (negsuc n) = pos n

-- the greatest number with these bits up to a number: with all bits turned it is the least
abbrev pub last_to : (zeros ones : ℕ) → ℤ → Option ℤ
last_to z o v = option_map turned (first_from o z (turned v))

abbrev pub edges_at : Option ℤ → Option ℤ → Option (ℤ × ℤ)
edges_at (Some f) (Some g) = if int_le f g then Some (f, g) else None
edges_at (Some f) None = None
edges_at None g = None

abbrev pub edges_from : Pattern → ℤ → ℤ → Option (ℤ × ℤ)
edges_from p l h = edges_at (first_from p.zeros p.ones l) (last_to p.zeros p.ones h)

abbrev pub edges_if_ordered : Pattern → ℤ → ℤ → Option (ℤ × ℤ)
edges_if_ordered p l h = if int_le l h then edges_from p l h else None

-- the least and the greatest number from lo to hi
abbrev pub edges_of : Pattern → ℤ → ℤ → Option (ℤ × ℤ)
edges_of p lo hi = edges_if_ordered p (int_max lo (least_of I64)) (int_min hi (greatest_of U64))
