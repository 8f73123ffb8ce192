-- What an operator gives of two classes (this project's rules).
use Rattle.std.specs.Prelude.{ℕ, ◌*◌, ◌^◌, ℤ, pos, ◌+ℤ◌, ◌-ℤ◌, ◌*ℤ◌, Bool, true, ◌&&◌, if◌then◌else◌, Option, Some}
use Rattle.std.specs.Prelude.{None, Result, Ok, Err, nat_le, int_lt, unsigned_abs}
use Rattle.std.specs.Option.{unwrap_or, option_and_then}
use Rattle.ep_int.specs.declared.types.IntType.{IntType}
use Rattle.ep_int.specs.declared.types.BinOp.{BinOp}
use Rattle.ep_int.specs.declared.types.BinOp.TheVariants.{Add, Sub, Mul, Div, Rem, And, Or, Xor, Shl, Shr}
use Rattle.ep_int.specs.declared.types.Undef.{Undef}
use Rattle.ep_int.specs.Types.{bits_of, is_signed, least_of, greatest_of}
use Rattle.ep_int.specs.Arith.{arith_of, is_amount}
use Rattle.ep_range_laws.specs.Faults.{is_shift}
use Rattle.ep_congruence_laws.specs.Multiples.{gcd}
use Rattle.ep_congruence_laws.specs.Classes.{Class, everything, one, is_one, reduced, edges_of, cut_of}
use Rattle.ep_congruence_laws.specs.Classes.{greatest_modulus}

-- the greatest product that is worked with, 2^126
abbrev pub greatest_product : ℕ
greatest_product = 85070591730234615865843651857942052864

-- the least and the greatest member that is of the type
abbrev pub ends_of : IntType → Class → ℤ × ℤ
ends_of t c =
    if is_one c then (c.remainder, c.remainder)
    else unwrap_or (edges_of c (least_of t) (greatest_of t)) (least_of t, greatest_of t)

-- some members of an unsigned type have an exact result out of range
abbrev pub sum_leaves : IntType → ℤ × ℤ → ℤ × ℤ → Bool
sum_leaves t r s = int_lt (greatest_of t) (r.1 +ℤ s.1)

abbrev pub difference_leaves : IntType → ℤ × ℤ → ℤ × ℤ → Bool
difference_leaves t r s = int_lt (r.0 -ℤ s.1) (least_of t)

abbrev pub product_leaves : IntType → ℤ × ℤ → ℤ × ℤ → Bool
product_leaves t r s = int_lt (greatest_of t) (r.1 *ℤ s.1)

-- The modulus of results: that of the exact results. In unsigned types, where these may leave the range, its greatest
-- common divisor with 2 to the width.
abbrev pub kept_modulus : IntType → Bool → ℕ → ℕ
kept_modulus t leaves m = if is_signed t then m else if leaves then gcd m (2 ^ bits_of t) else m

-- a modulus past the limit becomes 1
abbrev pub limited : ℕ → ℕ
limited m = if nat_le m greatest_modulus then m else 1

abbrev pub sum_of : IntType → Class → Class → Class
sum_of t a b =
    reduced (a.remainder +ℤ b.remainder)
    (limited (kept_modulus t (sum_leaves t (ends_of t a) (ends_of t b)) (gcd a.modulus b.modulus)))

abbrev pub difference_of : IntType → Class → Class → Class
difference_of t a b =
    reduced (a.remainder -ℤ b.remainder)
    (limited (kept_modulus t (difference_leaves t (ends_of t a) (ends_of t b)) (gcd a.modulus b.modulus)))

-- ---- products

-- the products whose greatest common divisor the modulus is
abbrev pub products : Class → Class → ℕ × ℕ × ℕ
products a b = (a.modulus * b.modulus, a.modulus * unsigned_abs b.remainder, unsigned_abs a.remainder * b.modulus)

abbrev pub are_small : ℕ × ℕ × ℕ → Bool
are_small p = nat_le p.0 greatest_product && (nat_le p.1 greatest_product && nat_le p.2 greatest_product)

-- What a product past the limits is: a multiple of the operand that is one number, in unsigned types of its greatest
-- common divisor with 2 to the width.
abbrev pub multiples_of : IntType → ℤ → Class
multiples_of t v = reduced (pos 0) (kept_modulus t true (unsigned_abs v))

abbrev pub past_limits : IntType → Class → Class → Class
past_limits t a b =
    if is_one a then multiples_of t a.remainder
    else if is_one b then multiples_of t b.remainder
    else everything

abbrev pub product_at : IntType → Class → Class → ℕ → Class
product_at t a b m = if nat_le m greatest_modulus then reduced (a.remainder *ℤ b.remainder) m else past_limits t a b

abbrev pub product_modulus : IntType → Class → Class → ℕ
product_modulus t a b =
    kept_modulus t (product_leaves t (ends_of t a) (ends_of t b))
    (gcd (gcd (products a b).0 (products a b).1) (products a b).2)

abbrev pub product_of : IntType → Class → Class → Class
product_of t a b = if are_small (products a b) then product_at t a b (product_modulus t a b) else past_limits t a b

-- to the left by an amount that is one number: a product by a power of 2
abbrev pub shifted_of : IntType → Class → Class → Class
shifted_of t a b =
    if is_one b && is_amount t b.remainder then product_of t a (one (pos (2 ^ unsigned_abs b.remainder)))
    else everything

-- ---- each operator

abbrev pub single_result : Result ℤ Undef → Option Class
single_result (Ok v) = Some (one v)
single_result (Err u) = None

-- of classes that are not both one number
abbrev pub results_of : BinOp → IntType → Class → Class → Class
results_of Add t a b = sum_of t a b
results_of Sub t a b = difference_of t a b
results_of Mul t a b = product_of t a b
results_of Shl t a b = shifted_of t a b
results_of Div t a b = everything
results_of Rem t a b = everything
results_of And t a b = everything
results_of Or t a b = everything
results_of Xor t a b = everything
results_of Shr t a b = everything

abbrev pub results_between : BinOp → IntType → Class → Class → Option Class
results_between o t a b =
    if is_one a && is_one b then single_result (arith_of o t a.remainder b.remainder)
    else Some (results_of o t a b)

-- the operands that arithmetic takes
abbrev pub left_operand : IntType → Class → Option Class
left_operand t a = cut_of a (least_of t) (greatest_of t)

abbrev pub right_operand : BinOp → IntType → Class → Option Class
right_operand o t b = if is_shift o then Some b else cut_of b (least_of t) (greatest_of t)

-- of the operands that arithmetic takes; a class without a number of some type is no value
abbrev pub value_of : BinOp → IntType → Class → Class → Option Class
value_of o t a b =
    option_and_then (λ x. option_and_then (results_between o t x) (right_operand o t b)) (left_operand t a)
