-- What an operator gives of two patterns (this project's rules).
use Rattle.std.specs.Prelude.{ℕ, ◌+◌, ◌-◌, ◌*◌, ◌/◌, ◌%◌, ◌^◌, ℤ, pos, ◌+ℤ◌, ◌-ℤ◌, ◌*ℤ◌, if◌then◌else◌, bit_and}
use Rattle.std.specs.Prelude.{bit_or, min}
use Rattle.std.specs.Int.{w128, trailing_ones}
use Rattle.ep_int.specs.declared.types.IntType.{IntType}
use Rattle.ep_int.specs.declared.types.BinOp.{BinOp}
use Rattle.ep_int.specs.declared.types.BinOp.TheVariants.{Add, Sub}
use Rattle.ep_int.specs.Types.{bits_of, residue}
use Rattle.ep_bit_laws.specs.Bits.{bit}
use Rattle.ep_bit_laws.specs.Patterns.{Pattern, pattern, type_pattern, low_part}

-- ---- bit by bit

abbrev pub both_of : Pattern → Pattern → Pattern
both_of p q = pattern (bit_or p.zeros q.zeros) (bit_and p.ones q.ones)

abbrev pub either_of : Pattern → Pattern → Pattern
either_of p q = pattern (bit_and p.zeros q.zeros) (bit_or p.ones q.ones)

abbrev pub one_of : Pattern → Pattern → Pattern
one_of p q = pattern
    (bit_or (bit_and p.zeros q.zeros) (bit_and p.ones q.ones))
    (bit_or (bit_and p.zeros q.ones) (bit_and p.ones q.zeros))

-- ---- shifts by one amount

-- to the right, filled with bit 64
abbrev pub shifted_down : ℕ → ℕ → ℕ
shifted_down n m = bit_or (m / 2 ^ n) (if bit m 64 then 2 ^ 65 - 2 ^ (65 - n) else 0)

abbrev pub right_by : ℕ → Pattern → Pattern
right_by n p = pattern (shifted_down n p.zeros) (shifted_down n p.ones)

-- to the left, filled with zeros, in an unsigned type
abbrev pub left_by : IntType → ℕ → Pattern → Pattern
left_by t n p = low_part t (pattern (p.zeros * 2 ^ n + (2 ^ n - 1)) (p.ones * 2 ^ n))

-- ---- sums, differences and products

abbrev pub known : Pattern → ℕ
known p = bit_or p.zeros p.ones

-- How many low bits both know without a gap. Where that is all bits of a type, both are one number.
abbrev pub low_known : IntType → Pattern → Pattern → ℕ
low_known t p q = min (trailing_ones w128 (bit_and (known p) (known q))) (bits_of t - 1)

abbrev pub exact_of : BinOp → ℤ → ℤ → ℤ
exact_of Add x y = x +ℤ y
exact_of Sub x y = x -ℤ y
exact_of o x y = x *ℤ y

-- the n low bits of a result
abbrev pub low_result : BinOp → ℕ → Pattern → Pattern → ℕ
low_result o n p q = residue (2 ^ n) (exact_of o (pos (p.ones % 2 ^ n)) (pos (q.ones % 2 ^ n)))

-- n low bits, and otherwise what is known of each number of the type
abbrev pub with_low : IntType → ℕ → ℕ → Pattern
with_low t n r = pattern (bit_or (2 ^ n - 1 - r) (type_pattern t).zeros) r

abbrev pub by_low_bits : BinOp → IntType → Pattern → Pattern → Pattern
by_low_bits o t p q = with_low t (low_known t p q) (low_result o (low_known t p q) p q)
