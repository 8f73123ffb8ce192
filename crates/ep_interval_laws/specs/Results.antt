-- What an operator gives of two intervals (this project's rules).
use Rattle.std.specs.Prelude.{ℕ, ◌-◌, ◌^◌, ℤ, pos, negsuc, ◌-ℤ◌, neg_ℤ, Bool, ◌&&◌, Option, Some, None, Result, Ok}
use Rattle.std.specs.Prelude.{Err, is_some, int_le, int_lt, int_div, unsigned_abs, if◌then◌else◌}
use Rattle.std.specs.Option.{unwrap_or, option_and_then}
use Rattle.std.specs.Int.{w64, leading_zeros, int_min, int_max, int_shr}
use Rattle.ep_int.specs.declared.types.IntType.{IntType}
use Rattle.ep_int.specs.declared.types.BinOp.{BinOp}
use Rattle.ep_int.specs.declared.types.BinOp.TheVariants.{Add, Sub, Mul, Div, Rem, And, Or, Xor, Shl, Shr}
use Rattle.ep_int.specs.declared.types.Undef.{Undef}
use Rattle.ep_int.specs.Types.{bits_of, is_signed, least_of, greatest_of}
use Rattle.ep_int.specs.Arith.{int_eq, arith_of}
use Rattle.ep_domain.specs.declared.outcome.Outcome.{Outcome}
use Rattle.ep_range_laws.specs.Faults.{is_shift, is_ordered, least_of_four, greatest_of_four, shown_range}
use Rattle.ep_range_laws.specs.Faults.{nearest_amount, range_fault_of}
use Rattle.ep_interval_laws.specs.Ends.{wrapped_low, wrapped_high}
use Rattle.ep_interval_laws.specs.Interval.{Interval, ends_of, between, overlap}

-- the numbers of a type that lie between two ends
abbrev pub clipped : IntType → ℤ × ℤ → Option Interval
clipped t e = between (int_max e.0 (least_of t)) (int_min e.1 (greatest_of t))

-- exact results between two ends: of a signed type clipped, of an unsigned one reduced
abbrev pub settled_between : IntType → ℤ × ℤ → Option Interval
settled_between t e = if is_signed t then clipped t e else between (wrapped_low t e.0 e.1) (wrapped_high t e.0 e.1)

-- ---- division

abbrev pub negative_part : ℤ × ℤ → ℤ × ℤ
negative_part s = (s.0, int_min s.1 (negsuc 0))

abbrev pub positive_part : ℤ × ℤ → ℤ × ℤ
positive_part s = (int_max s.0 (pos 1), s.1)

-- the range of the quotients by divisors of one sign
abbrev pub quotients : ℤ × ℤ → ℤ × ℤ → ℤ × ℤ
quotients r s = (
  least_of_four (int_div r.0 s.0) (int_div r.0 s.1) (int_div r.1 s.0) (int_div r.1 s.1),
  greatest_of_four (int_div r.0 s.0) (int_div r.0 s.1) (int_div r.1 s.0) (int_div r.1 s.1),
)

abbrev pub hull : ℤ × ℤ → ℤ × ℤ → ℤ × ℤ
hull d e = (int_min d.0 e.0, int_max d.1 e.1)

abbrev pub divided : IntType → ℤ × ℤ → ℤ × ℤ → Option Interval
divided t r s =
    if is_ordered (negative_part s)
    then (if is_ordered (positive_part s)
    then clipped t (hull (quotients r (negative_part s)) (quotients r (positive_part s)))
    else clipped t (quotients r (negative_part s)))
    else (if is_ordered (positive_part s) then clipped t (quotients r (positive_part s)) else None)

-- the greatest size of a divisor
abbrev pub greatest_size : ℤ × ℤ → ℤ
greatest_size s = int_max (neg_ℤ s.0) s.1

-- A remainder is smaller in size than the divisor, and lies between zero and the left operand. Where the only divisor
-- is zero, the ends are out of order.
abbrev pub remainders : ℤ × ℤ → ℤ × ℤ → Option Interval
remainders r s = between (int_max (pos 1 -ℤ greatest_size s) (int_min r.0 (pos 0)))
    (int_min (greatest_size s -ℤ pos 1) (int_max r.1 (pos 0)))

-- ---- bits

abbrev pub whole : IntType → Option Interval
whole t = between (least_of t) (greatest_of t)

abbrev pub is_positive : ℤ × ℤ → Bool
is_positive r = int_le (pos 0) r.0

-- up to the least upper end of the operands that are not negative
abbrev pub anded : IntType → ℤ × ℤ → ℤ × ℤ → Option Interval
anded t r s =
    if is_positive r
    then between (pos 0) (if is_positive s then int_min r.1 s.1 else r.1)
    else (if is_positive s then between (pos 0) s.1 else whole t)

-- the least k for which a number of at most 64 bits is below 2 to the power of k
abbrev pub length_in_bits : ℕ → ℕ
length_in_bits n = 64 - leading_zeros w64 n

-- the greatest number of as many bits as a number that is not negative
abbrev pub ones_over : ℤ → ℤ
ones_over v = pos (2 ^ length_in_bits (unsigned_abs v) - 1)

abbrev pub ored : IntType → ℤ × ℤ → ℤ × ℤ → Option Interval
ored t r s = if is_positive r && is_positive s then between (int_max r.0 s.0) (ones_over (int_max r.1 s.1)) else whole t

abbrev pub xored : IntType → ℤ × ℤ → ℤ × ℤ → Option Interval
xored t r s = if is_positive r && is_positive s then between (pos 0) (ones_over (int_max r.1 s.1)) else whole t

-- ---- shifts

-- some amount is from 0 to the width less one
abbrev pub has_amount : IntType → ℤ × ℤ → Bool
has_amount t s = int_le (pos 0) s.1 && int_lt s.0 (pos (bits_of t))

-- the powers of 2 of the amounts
abbrev pub powers : IntType → ℤ × ℤ → ℤ × ℤ
powers t s = (pos (2 ^ nearest_amount t s.0), pos (2 ^ nearest_amount t s.1))

abbrev pub shifted_left : IntType → ℤ × ℤ → ℤ × ℤ → Option Interval
shifted_left t r s = if has_amount t s then settled_between t (shown_range Mul r (powers t s)) else None

abbrev pub shifted_right_between : ℤ × ℤ → ℕ → ℕ → Option Interval
shifted_right_between r j k =
    between
    (least_of_four (int_shr r.0 j) (int_shr r.0 k) (int_shr r.1 j) (int_shr r.1 k))
    (greatest_of_four (int_shr r.0 j) (int_shr r.0 k) (int_shr r.1 j) (int_shr r.1 k))

abbrev pub shifted_right : IntType → ℤ × ℤ → ℤ × ℤ → Option Interval
shifted_right t r s = if has_amount t s
    then shifted_right_between r (nearest_amount t s.0) (nearest_amount t s.1) else None

-- ---- each operator

abbrev pub single_result : Result ℤ Undef → Option Interval
single_result (Ok v) = between v v
single_result (Err u) = None

abbrev pub results_of : BinOp → IntType → ℤ × ℤ → ℤ × ℤ → Option Interval
results_of Add t r s = settled_between t (shown_range Add r s)
results_of Sub t r s = settled_between t (shown_range Sub r s)
results_of Mul t r s = settled_between t (shown_range Mul r s)
results_of Div t r s = divided t r s
results_of Rem t r s = remainders r s
results_of And t r s = anded t r s
results_of Or t r s = ored t r s
results_of Xor t r s = xored t r s
results_of Shl t r s = shifted_left t r s
results_of Shr t r s = shifted_right t r s

-- single numbers by arithmetic, others by their ends
abbrev pub results_between : BinOp → IntType → Interval → Interval → Option Interval
results_between o t a b = if int_eq a.lo a.hi && int_eq b.lo b.hi then single_result (arith_of o t a.lo b.lo)
    else results_of o t (ends_of a) (ends_of b)

-- the right operands that arithmetic takes
abbrev pub right_operands : BinOp → IntType → Interval → Option Interval
right_operands o t b = if is_shift o then Some b else overlap b (least_of t) (greatest_of t)

-- the results, where both operands hold a number that arithmetic takes
abbrev pub value_of : BinOp → IntType → Interval → Interval → Option Interval
value_of o t a b = option_and_then (λ x. option_and_then (λ y. results_between o t x y) (right_operands o t b))
    (overlap a (least_of t) (greatest_of t))

abbrev pub outcome_of : BinOp → IntType → Interval → Interval → Outcome Interval
outcome_of o t a b = record {
  value = value_of o t a b;
  fault = is_some (range_fault_of o t (ends_of a) (ends_of b));
  shown = unwrap_or (range_fault_of o t (ends_of a) (ends_of b)) (pos 0, pos 0);
}
