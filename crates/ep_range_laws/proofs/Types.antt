-- The ranges of the integer types.
use Rattle.std.proofs.Common.{◌≡◌, ℤ, pos, ◌+ℤ◌, ◌≤ℤ◌, neg_ℤ, true, false, arith, refl}
use Rattle.ep_int.proofs.Arithmetic.{in_range_from_true, in_range_some_type}
use Rattle.std.proofs.lemmas.Int.{ints}
use Rattle.ep_int.specs.declared.types.IntType.{IntType}
use Rattle.ep_int.specs.declared.types.IntType.TheVariants.{I8, U8, I16, U16, I32, U32, I64, U64}
use Rattle.ep_int.specs.Types.{is_signed, least_of, greatest_of, InRange}
use Rattle.ep_int.specs.Arith.{is_in_range}
use Rattle.ep_range_laws.proofs.Comparisons.{between_true}

pub least_negative : (t : IntType) → least_of t ≤ℤ pos 0
least_negative I8 = omega (arith, ints)
least_negative U8 = omega (arith, ints)
least_negative I16 = omega (arith, ints)
least_negative U16 = omega (arith, ints)
least_negative I32 = omega (arith, ints)
least_negative U32 = omega (arith, ints)
least_negative I64 = omega (arith, ints)
least_negative U64 = omega (arith, ints)

pub greatest_positive : (t : IntType) → pos 1 ≤ℤ greatest_of t
greatest_positive I8 = omega (arith, ints)
greatest_positive U8 = omega (arith, ints)
greatest_positive I16 = omega (arith, ints)
greatest_positive U16 = omega (arith, ints)
greatest_positive I32 = omega (arith, ints)
greatest_positive U32 = omega (arith, ints)
greatest_positive I64 = omega (arith, ints)
greatest_positive U64 = omega (arith, ints)

pub ends_ordered : (t : IntType) → least_of t ≤ℤ greatest_of t
ends_ordered t = let p = least_negative t in let q = greatest_positive t in omega (arith, ints)

pub number_low : (t : IntType) → least_of I64 ≤ℤ least_of t
number_low I8 = omega (arith, ints)
number_low U8 = omega (arith, ints)
number_low I16 = omega (arith, ints)
number_low U16 = omega (arith, ints)
number_low I32 = omega (arith, ints)
number_low U32 = omega (arith, ints)
number_low I64 = omega (arith, ints)
number_low U64 = omega (arith, ints)

pub number_high : (t : IntType) → greatest_of t ≤ℤ greatest_of U64
number_high I8 = omega (arith, ints)
number_high U8 = omega (arith, ints)
number_high I16 = omega (arith, ints)
number_high U16 = omega (arith, ints)
number_high I32 = omega (arith, ints)
number_high U32 = omega (arith, ints)
number_high I64 = omega (arith, ints)
number_high U64 = omega (arith, ints)

-- a signed type has one negative number more than it has positive ones
pub least_signed : (t : IntType) → is_signed t ≡ true → greatest_of t +ℤ pos 1 ≡ neg_ℤ (least_of t)
least_signed I8 e = refl
least_signed U8 e = cc
least_signed I16 e = refl
least_signed U16 e = cc
least_signed I32 e = refl
least_signed U32 e = cc
least_signed I64 e = refl
least_signed U64 e = cc

pub least_unsigned : (t : IntType) → is_signed t ≡ false → least_of t ≡ pos 0
least_unsigned I8 e = cc
least_unsigned U8 e = refl
least_unsigned I16 e = cc
least_unsigned U16 e = refl
least_unsigned I32 e = cc
least_unsigned U32 e = refl
least_unsigned I64 e = cc
least_unsigned U64 e = refl

-- no number is farther from zero than the greatest, but the least of a signed type
pub reach : (t : IntType) → neg_ℤ (least_of t) ≤ℤ (greatest_of t +ℤ pos 1)
reach I8 = omega (arith, ints)
reach U8 = omega (arith, ints)
reach I16 = omega (arith, ints)
reach U16 = omega (arith, ints)
reach I32 = omega (arith, ints)
reach U32 = omega (arith, ints)
reach I64 = omega (arith, ints)
reach U64 = omega (arith, ints)

pub in_range_true : (t : IntType) (v : ℤ) → InRange t v → is_in_range t v ≡ true
in_range_true t v h = between_true _ _ _ _ h.low h.high
