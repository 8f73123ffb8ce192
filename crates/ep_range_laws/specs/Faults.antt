-- Which pairs of numbers arithmetic takes, where a pair of two ranges is undefined, and the number that an alarm shows
-- of it (this project's rules).
use Rattle.std.specs.Prelude.{◌≡◌, ℕ, ◌-◌, ◌^◌, ℤ, pos, negsuc, ◌+ℤ◌, ◌-ℤ◌, ◌*ℤ◌, Bool, true, false, ◌&&◌, ◌||◌}
use Rattle.std.specs.Prelude.{if◌then◌else◌, Option, Some, None, int_le, int_lt, unsigned_abs, is_err}
use Rattle.std.specs.Int.{int_min, int_max}
use Rattle.ep_int.specs.declared.types.IntType.{IntType}
use Rattle.ep_int.specs.declared.types.BinOp.{BinOp}
use Rattle.ep_int.specs.declared.types.BinOp.TheVariants.{Add, Sub, Mul, Div, Rem, And, Or, Xor, Shl, Shr}
use Rattle.ep_int.specs.Types.{bits_of, is_signed, least_of, greatest_of, InRange}
use Rattle.ep_int.specs.Arith.{arith_of, IsRightOperand}
use Rattle.ep_range_laws.specs.Ranges.{LiesIn}

abbrev pub is_shift : BinOp → Bool
is_shift Add = false
is_shift Sub = false
is_shift Mul = false
is_shift Div = false
is_shift Rem = false
is_shift And = false
is_shift Or = false
is_shift Xor = false
is_shift Shl = true
is_shift Shr = true

-- a pair of numbers that arithmetic takes
pub record Takes (o : BinOp) (t : IntType) (x y : ℤ) : Type 0 where
  pub left : InRange t x
  pub right : IsRightOperand o t y

-- the number that an alarm shows: the exact result of an overflow, the divisor, the amount
abbrev pub shown_of : BinOp → ℤ → ℤ → ℤ
shown_of Add x y = x +ℤ y
shown_of Sub x y = x -ℤ y
shown_of Mul x y = x *ℤ y
shown_of o x y = y

-- a pair of two ranges that arithmetic takes, and of which it is undefined
pub record MayFault (o : BinOp) (t : IntType) (r s : ℤ × ℤ) : Type 0 where
  pub x : ℤ
  pub y : ℤ
  pub left : LiesIn r x
  pub right : LiesIn s y
  pub taken : Takes o t x y
  pub undefined : is_err (arith_of o t x y) ≡ true

-- a pair of two ranges that arithmetic takes shows this number
pub record IsShown (o : BinOp) (t : IntType) (r s : ℤ × ℤ) (v : ℤ) : Type 0 where
  pub x : ℤ
  pub y : ℤ
  pub left : LiesIn r x
  pub right : LiesIn s y
  pub taken : Takes o t x y
  pub shown : v ≡ shown_of o x y

-- the least range that has what is shown of each pair of two ranges that arithmetic takes
pub record ShowsRange (o : BinOp) (t : IntType) (r s e : ℤ × ℤ) : Type 0 where
  pub each : (v : ℤ) → IsShown o t r s v → LiesIn e v
  pub low : IsShown o t r s e.0
  pub high : IsShown o t r s e.1

-- ---- the same, computed from the ends

abbrev pub least_of_four : ℤ → ℤ → ℤ → ℤ → ℤ
least_of_four a b c d = int_min (int_min a b) (int_min c d)

abbrev pub greatest_of_four : ℤ → ℤ → ℤ → ℤ → ℤ
greatest_of_four a b c d = int_max (int_max a b) (int_max c d)

-- the range of what the pairs show
abbrev pub shown_range : BinOp → ℤ × ℤ → ℤ × ℤ → ℤ × ℤ
shown_range Add r s = (r.0 +ℤ s.0, r.1 +ℤ s.1)
shown_range Sub r s = (r.0 -ℤ s.1, r.1 -ℤ s.0)
shown_range Mul r s = (
  least_of_four (r.0 *ℤ s.0) (r.0 *ℤ s.1) (r.1 *ℤ s.0) (r.1 *ℤ s.1),
  greatest_of_four (r.0 *ℤ s.0) (r.0 *ℤ s.1) (r.1 *ℤ s.0) (r.1 *ℤ s.1),
)
shown_range o r s = s

abbrev pub is_ordered : ℤ × ℤ → Bool
is_ordered r = int_le r.0 r.1

abbrev pub lies_in : ℤ × ℤ → ℤ → Bool
lies_in r v = int_le r.0 v && int_le v r.1

-- exact results of a signed type, of which some is out of range
abbrev pub may_overflow : IntType → ℤ × ℤ → Bool
may_overflow t e = is_signed t && (int_lt e.0 (least_of t) || int_lt (greatest_of t) e.1)

-- the divisor may be 0, or the quotient too large: only that of the least number by -1 is
abbrev pub may_not_divide : IntType → ℤ × ℤ → ℤ × ℤ → Bool
may_not_divide t r s = lies_in s (pos 0) || (lies_in r (least_of t) && lies_in s (negsuc 0))

-- the amount may be negative, or the width or more
abbrev pub may_pass_width : IntType → ℤ × ℤ → Bool
may_pass_width t s = int_lt s.0 (pos 0) || int_le (pos (bits_of t)) s.1

-- the nearest amount of a shift of the type
abbrev pub nearest_amount : IntType → ℤ → ℕ
nearest_amount t y = unsigned_abs (int_max (pos 0) (int_min y (pos (bits_of t - 1))))

-- what is shifted to the left may be negative, or leave the range
abbrev pub may_not_shift : IntType → ℤ × ℤ → ℤ × ℤ → Bool
may_not_shift t r s =
    is_signed t && (int_lt r.0 (pos 0) || int_lt (greatest_of t) (r.1 *ℤ pos (2 ^ nearest_amount t s.1)))

-- whether two ranges of numbers that arithmetic takes hold a pair of which it is undefined
abbrev pub may_fault : BinOp → IntType → ℤ × ℤ → ℤ × ℤ → Bool
may_fault Add t r s = may_overflow t (shown_range Add r s)
may_fault Sub t r s = may_overflow t (shown_range Sub r s)
may_fault Mul t r s = may_overflow t (shown_range Mul r s)
may_fault Div t r s = may_not_divide t r s
may_fault Rem t r s = may_not_divide t r s
may_fault And t r s = false
may_fault Or t r s = false
may_fault Xor t r s = false
may_fault Shl t r s = may_pass_width t s || may_not_shift t r s
may_fault Shr t r s = may_pass_width t s

-- the part of a range that is of a type
abbrev pub part_of : IntType → ℤ × ℤ → ℤ × ℤ
part_of t r = (int_max r.0 (least_of t), int_min r.1 (greatest_of t))

-- the right operands of a range that arithmetic takes
abbrev pub right_part : BinOp → IntType → ℤ × ℤ → ℤ × ℤ
right_part o t s = if is_shift o then s else part_of t s

abbrev pub fault_between : BinOp → IntType → ℤ × ℤ → ℤ × ℤ → Option (ℤ × ℤ)
fault_between o t r s = if (is_ordered r && is_ordered s) && may_fault o t r s then Some (shown_range o r s) else None

-- the range that an alarm shows, where two ranges hold a pair of which arithmetic is undefined
abbrev pub range_fault_of : BinOp → IntType → ℤ × ℤ → ℤ × ℤ → Option (ℤ × ℤ)
range_fault_of o t r s = fault_between o t (part_of t r) (right_part o t s)
