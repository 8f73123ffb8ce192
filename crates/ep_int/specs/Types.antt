-- Integer types: their widths, ranges and representations. C11 6.2.5, 6.2.6.2 and 6.3.1.3.
use Rattle.std.specs.Prelude.{◌≡◌, ℕ, ◌-◌, ◌*◌, ◌%◌, ◌^◌, ℤ, pos, negsuc, ◌+ℤ◌, ◌*ℤ◌, ◌≤ℤ◌, Bool, true, false, ◌&&◌}
use Rattle.std.specs.Prelude.{nat_le, if◌then◌else◌}
use Rattle.ep_int.specs.declared.types.IntType.{IntType}
use Rattle.ep_int.specs.declared.types.IntType.TheVariants.{I8, U8, I16, U16, I32, U32, I64, U64}
use Rattle.ep_int.specs.declared.types.Model.{Model}
use Rattle.ep_int.specs.declared.types.Model.TheVariants.{Ilp32, Lp64}
use Rattle.ep_int.specs.declared.types.Scalar.{Scalar}
use Rattle.ep_int.specs.declared.types.Scalar.TheVariants.{Int, Pointer}

-- the number of bytes (this project's choice, the same in both data models)
abbrev pub bytes_of : IntType → ℕ
bytes_of I8 = 1
bytes_of U8 = 1
bytes_of I16 = 2
bytes_of U16 = 2
bytes_of I32 = 4
bytes_of U32 = 4
bytes_of I64 = 8
bytes_of U64 = 8

-- the width, in bits
abbrev pub bits_of : IntType → ℕ
bits_of t = 8 * bytes_of t

-- the number of bytes of a pointer (this project's data models)
abbrev pub pointer_bytes : Model → ℕ
pointer_bytes Ilp32 = 4
pointer_bytes Lp64 = 8

-- the number of bytes of a scalar, and what its address is a multiple of
abbrev pub size_of : Model → Scalar → ℕ
size_of m (Int t) = bytes_of t
size_of m Pointer = pointer_bytes m

abbrev pub is_signed : IntType → Bool
is_signed I8 = true
is_signed U8 = false
is_signed I16 = true
is_signed U16 = false
is_signed I32 = true
is_signed U32 = false
is_signed I64 = true
is_signed U64 = false

-- the least and the greatest number of a type
abbrev pub least_of : IntType → ℤ
least_of I8 = negsuc 127
least_of U8 = pos 0
least_of I16 = negsuc 32767
least_of U16 = pos 0
least_of I32 = negsuc 2147483647
least_of U32 = pos 0
least_of I64 = negsuc 9223372036854775807
least_of U64 = pos 0

abbrev pub greatest_of : IntType → ℤ
greatest_of I8 = pos 127
greatest_of U8 = pos 255
greatest_of I16 = pos 32767
greatest_of U16 = pos 65535
greatest_of I32 = pos 2147483647
greatest_of U32 = pos 4294967295
greatest_of I64 = pos 9223372036854775807
greatest_of U64 = pos 18446744073709551615

-- a number of the type
pub record InRange (t : IntType) (v : ℤ) : Type 0 where
  pub low : least_of t ≤ℤ v
  pub high : v ≤ℤ greatest_of t

-- equal modulo 2 to the power of the width
abbrev pub IsCongruent : IntType → ℤ → ℤ → Type 0
IsCongruent t v w = (k : ℤ) × (v ≡ w +ℤ (k *ℤ pos (2 ^ bits_of t)))

-- what is left of a whole number at a modulus
abbrev pub residue : ℕ → ℤ → ℕ
residue m (pos n) = n % m
residue m (negsuc n) = m - 1 - n % m

-- the bits of a number of the type, as a natural number: two's complement (C11 6.2.6.2)
abbrev pub representation : IntType → ℤ → ℕ
representation t v = residue (2 ^ bits_of t) v

-- the number that has these bits
abbrev pub represented : IntType → ℕ → ℤ
represented t n = if is_signed t && nat_le (2 ^ (bits_of t - 1)) n then negsuc (2 ^ bits_of t - 1 - n) else pos n

-- conversion: the number of the type that is congruent (C11 6.3.1.3, to signed types too by this project's choice)
abbrev pub wrapped : IntType → ℤ → ℤ
wrapped t v = represented t (representation t v)
