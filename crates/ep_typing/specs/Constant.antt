-- Constants: C11 6.6, with this project's rule that each part is a number, a `sizeof`, a cast to an integer or an
-- operator.
use Rattle.std.specs.Prelude.{ℕ, ◌&&◌, Bool, true, false, not, if◌then◌else◌, nat_le, Option, Some, None}
use Rattle.std.specs.Prelude.{option_and_then, option_map, Result, Ok, Err, ℤ, pos, negsuc}
use Rattle.ep_int.specs.declared.types.Undef.{Undef}
use Rattle.ep_int.specs.Arith.{arith_of, compares, int_eq}
use Rattle.ep_int.specs.Types.{wrapped}
use Rattle.ep_core.specs.Program.{Expr, const, null_value, load, addr_of, binary, convert, compare, ptr_compare}
use Rattle.ep_core.specs.Program.{logical_and, logical_or, logical_not, conditional, ptr_add, cast}
use Rattle.ep_typing.specs.Types.{is_integer}
use Rattle.ep_typing.specs.Operand.{Value}

-- no object and no pointer occurs, also in a part that isn't evaluated
abbrev pub has_only_numbers : Expr → Bool
has_only_numbers (const t v) = true
has_only_numbers null_value = false
has_only_numbers (load what p) = false
has_only_numbers (addr_of p) = false
has_only_numbers (binary op t a b) = has_only_numbers a && has_only_numbers b
has_only_numbers (convert t a) = has_only_numbers a
has_only_numbers (compare c t a b) = has_only_numbers a && has_only_numbers b
has_only_numbers (ptr_compare c a b) = false
has_only_numbers (logical_and a b) = has_only_numbers a && has_only_numbers b
has_only_numbers (logical_or a b) = has_only_numbers a && has_only_numbers b
has_only_numbers (logical_not a) = has_only_numbers a
has_only_numbers (conditional e a b) = has_only_numbers e && (has_only_numbers a && has_only_numbers b)
has_only_numbers (ptr_add a unit n back) = false
has_only_numbers (cast a) = false

abbrev pub no_fault : Result ℤ Undef → Option ℤ
no_fault (Ok v) = Some v
no_fault (Err u) = None

abbrev pub truth : Bool → ℤ
truth b = if b then pos 1 else pos 0

abbrev pub is_true : ℤ → Bool
is_true v = not (int_eq v (pos 0))

-- The number of an expression of numbers. A fault has none; a part that C doesn't evaluate may fault.
unfoldable pub number_of : Expr → Option ℤ
number_of (const t v) = Some v
number_of null_value = None
number_of (load what p) = None
number_of (addr_of p) = None
number_of (binary op t a b) =
    option_and_then (λ x. option_and_then (λ y. no_fault (arith_of op t x y)) (number_of b)) (number_of a)
number_of (convert t a) = option_map (wrapped t) (number_of a)
number_of (compare c t a b) =
    option_and_then (λ x. option_map (λ y. truth (compares c x y)) (number_of b)) (number_of a)
number_of (ptr_compare c a b) = None
number_of (logical_and a b) =
    option_and_then (λ x. if is_true x then option_map (λ y. truth (is_true y)) (number_of b) else Some (pos 0))
    (number_of a)
number_of (logical_or a b) =
    option_and_then (λ x. if is_true x then Some (pos 1) else option_map (λ y. truth (is_true y)) (number_of b))
    (number_of a)
number_of (logical_not a) = option_map (λ x. truth (not (is_true x))) (number_of a)
number_of (conditional e a b) = option_and_then (λ x. if is_true x then number_of a else number_of b) (number_of e)
number_of (ptr_add a unit n back) = None
number_of (cast a) = None

-- the number that a value is, if it is a constant of integer type
abbrev pub constant_of : Value → Option ℤ
constant_of v = if is_integer v.ty && has_only_numbers v.expr then number_of v.expr else None

-- what bounds and lengths may be
abbrev pub count_in : ℤ → Option ℕ
count_in (pos n) = if nat_le 1 n && nat_le n 65536 then Some n else None
count_in (negsuc n) = None

-- a constant from 1 to 65,536
unfoldable pub count_of : Value → Option ℕ
count_of v = option_and_then count_in (constant_of v)
