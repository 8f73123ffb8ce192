-- Arithmetic on numbers of the integer types, on exact whole numbers: C11 6.3.1.1, 6.3.1.8 and 6.5.5 to 6.5.12.
use Rattle.std.specs.Prelude.{◌^◌, ℤ, pos, ◌+ℤ◌, ◌-ℤ◌, ◌*ℤ◌, ◌≤ℤ◌, Bool, ◌&&◌, not, if◌then◌else◌, Result, Ok, Err}
use Rattle.std.specs.Prelude.{int_lt, int_le, int_div, int_rem, unsigned_abs, bit_and, bit_or, bit_xor}
use Rattle.std.specs.Int.{int_shr}
use Rattle.ep_int.specs.declared.types.IntType.{IntType}
use Rattle.ep_int.specs.declared.types.IntType.TheVariants.{I8, U8, I16, U16, I32, U32, I64, U64}
use Rattle.ep_int.specs.declared.types.BinOp.{BinOp}
use Rattle.ep_int.specs.declared.types.BinOp.TheVariants.{Add, Sub, Mul, Div, Rem, And, Or, Xor, Shl, Shr}
use Rattle.ep_int.specs.declared.types.Cmp.{Cmp}
use Rattle.ep_int.specs.declared.types.Cmp.TheVariants.{Eq, Ne, Lt, Le, Gt, Ge}
use Rattle.ep_int.specs.declared.types.Undef.{Undef}
use Rattle.ep_int.specs.declared.types.Undef.TheVariants.{Overflow, Division, Shift}
use Rattle.ep_int.specs.Types.{bits_of, is_signed, least_of, greatest_of, InRange, representation, represented, wrapped}

-- the integer promotions (C11 6.3.1.1p2)
abbrev pub promoted : IntType → IntType
promoted I8 = I32
promoted U8 = I32
promoted I16 = I32
promoted U16 = I32
promoted I32 = I32
promoted U32 = U32
promoted I64 = I64
promoted U64 = U64

-- of promoted types, the one that both convert to: one of the greater size, and of one size the unsigned one
abbrev pub wider_of : IntType → IntType → IntType
wider_of U64 b = U64
wider_of a U64 = U64
wider_of I64 b = I64
wider_of a I64 = I64
wider_of U32 b = U32
wider_of a U32 = U32
wider_of a b = I32

-- the usual arithmetic conversions (C11 6.3.1.8p1)
abbrev pub common_of : IntType → IntType → IntType
common_of a b = wider_of (promoted a) (promoted b)

-- the test for InRange
abbrev pub is_in_range : IntType → ℤ → Bool
is_in_range t v = int_le (least_of t) v && int_le v (greatest_of t)

-- a number of some type
pub record IsOfSomeType (v : ℤ) : Type 0 where
  pub low : least_of I64 ≤ℤ v
  pub high : v ≤ℤ greatest_of U64

-- the right number of an operator: of the operator's type, but the amount of a shift may be of any type
abbrev pub IsRightOperand : BinOp → IntType → ℤ → Type 0
IsRightOperand Shl t y = IsOfSomeType y
IsRightOperand Shr t y = IsOfSomeType y
IsRightOperand op t y = InRange t y

-- An exact result: of a signed type it has to be in range, of an unsigned one it is reduced (C11 6.5p5 and 6.2.5p9).
abbrev pub settled : Undef → IntType → ℤ → Result ℤ Undef
settled u t v = if is_signed t then (if is_in_range t v then Ok v else Err u) else Ok (wrapped t v)

abbrev pub int_eq : ℤ → ℤ → Bool
int_eq x y = int_le x y && int_le y x

-- the divisor is not zero, and the quotient, which is truncated toward zero, is of the type (C11 6.5.5p5 and p6)
abbrev pub is_divisible : IntType → ℤ → ℤ → Bool
is_divisible t x y = not (int_eq y (pos 0)) && is_in_range t (int_div x y)

-- the amount of a shift is from 0 to the width less one (C11 6.5.7p3)
abbrev pub is_amount : IntType → ℤ → Bool
is_amount t y = int_le (pos 0) y && int_lt y (pos (bits_of t))

-- What an operator gives at two numbers. The bitwise operators work on the bits of the type (C11 6.5.10 to 6.5.12). To
-- the left only numbers that are not negative are shifted, and those of an unsigned type never are (6.5.7p4); to the
-- right all are, and rounded down (6.5.7p5, of negative numbers by this project's choice).
abbrev pub arith_of : BinOp → IntType → ℤ → ℤ → Result ℤ Undef
arith_of Add t x y = settled Overflow t (x +ℤ y)
arith_of Sub t x y = settled Overflow t (x -ℤ y)
arith_of Mul t x y = settled Overflow t (x *ℤ y)
arith_of Div t x y = if is_divisible t x y then Ok (int_div x y) else Err Division
arith_of Rem t x y = if is_divisible t x y then Ok (int_rem x y) else Err Division
arith_of And t x y = Ok (represented t (bit_and (representation t x) (representation t y)))
arith_of Or t x y = Ok (represented t (bit_or (representation t x) (representation t y)))
arith_of Xor t x y = Ok (represented t (bit_xor (representation t x) (representation t y)))
arith_of Shl t x y =
    if is_amount t y && int_le (pos 0) x then settled Shift t (x *ℤ pos (2 ^ unsigned_abs y)) else Err Shift
arith_of Shr t x y = if is_amount t y then Ok (int_shr x (unsigned_abs y)) else Err Shift

-- whether two numbers compare so (C11 6.5.8 and 6.5.9)
abbrev pub compares : Cmp → ℤ → ℤ → Bool
compares Eq x y = int_eq x y
compares Ne x y = not (int_eq x y)
compares Lt x y = int_lt x y
compares Le x y = int_le x y
compares Gt x y = int_lt y x
compares Ge x y = int_le y x
