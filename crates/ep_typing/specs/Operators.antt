-- What operators on two values come to, and their kinds in order: C11 6.5.5 to 6.5.15.
use Rattle.std.specs.Prelude.{ℕ, ◌==◌, Bool, true, false, ◌&&◌, ◌||◌, not, if◌then◌else◌, Result, Ok, Err, pos, negsuc}
use Rattle.ep_ast.specs.Kind as kinds
use Rattle.ep_int.specs.declared.types.IntType.{IntType}
use Rattle.ep_int.specs.declared.types.IntType.TheVariants.{I32}
use Rattle.ep_int.specs.declared.types.BinOp.{BinOp}
use Rattle.ep_int.specs.declared.types.BinOp.TheVariants.{Add, Sub, Mul, Div, Rem, And, Or, Xor, Shl, Shr}
use Rattle.ep_int.specs.declared.types.Cmp.{Cmp}
use Rattle.ep_int.specs.declared.types.Cmp.TheVariants.{Eq, Ne, Lt, Le, Gt, Ge}
use Rattle.ep_int.specs.Types.{wrapped}
use Rattle.ep_int.specs.Arith.{common_of}
use Rattle.ep_ast.specs.Mark as mark
use Rattle.ep_layout.specs.Table.{Table}
use Rattle.ep_core.specs.Program as core
use Rattle.ep_typing.specs.declared.types.CType.{CType}
use Rattle.ep_typing.specs.Results.{◌>>=◌, needed}
use Rattle.ep_typing.specs.Types.{int_of, is_integer, is_pointer, is_same, is_scalar, is_void_pointer, size_of_type}
use Rattle.ep_typing.specs.Types.{target, void_pointer}
use Rattle.ep_typing.specs.Operand.{Value, as_pointer, converted, int_value, is_mixed, are_compatible, plain_value}
use Rattle.ep_typing.specs.Operand.{promoted_type, promoted_value}

abbrev pub are_integers : Value → Value → Bool
are_integers a b = is_integer a.ty && is_integer b.ty

abbrev pub are_pointers : Value → Value → Bool
are_pointers a b = is_pointer a.ty && is_pointer b.ty

abbrev pub is_null_either : Value → Value → Bool
is_null_either a b = a.is_null || b.is_null

-- the type of the usual arithmetic conversions (C11 6.3.1.8p1)
abbrev pub common_type : Value → Value → IntType
common_type a b = common_of (int_of a.ty) (int_of b.ty)

-- ---- numbers

abbrev pub computed : BinOp → Value → Value → Value
computed op a b =
    let t = common_type a b in int_value (core.binary op t (converted t a) (converted t b)) t

-- two integers (C11 6.5.5p2, 6.5.10p2, 6.5.11p2 and 6.5.12p2); this project subtracts no pointers
unfoldable pub arithmetic : BinOp → Value → Value → Result Value ℕ
arithmetic op a b = if are_integers a b then Ok (computed op a b) else Err kinds.type_mismatch

-- each side is promoted by itself, and the result is of the left one's type (C11 6.5.7p3)
unfoldable pub shifted : BinOp → Value → Value → Result Value ℕ
shifted op a b =
    if are_integers a b
    then Ok (int_value (core.binary op (promoted_type a) (promoted_value a) (promoted_value b)) (promoted_type a))
    else Err kinds.type_mismatch

-- ---- pointers and numbers

-- A pointer moves in units of what it points to: incomplete_type where that has no size (C11 6.5.6p2 and p8). The
-- number isn't
-- converted.
unfoldable pub moved : Table → Value → (count : Value) → (backwards : Bool) → Result Value ℕ
moved t p n back = do
  unit ← needed kinds.incomplete_type (size_of_type t (target p.ty))
  Ok (plain_value (core.ptr_add p.expr unit n.expr back) p.ty)

-- `+`, with the pointer on either side (C11 6.5.6p2)
unfoldable pub added : Table → Value → Value → Result Value ℕ
added t a b =
    if is_pointer a.ty && is_integer b.ty then moved t a b false
    else if is_integer a.ty && is_pointer b.ty then moved t b a false
    else arithmetic Add a b

-- `-`, with the pointer on the left (C11 6.5.6p3)
unfoldable pub subtracted : Table → Value → Value → Result Value ℕ
subtracted t a b = if is_pointer a.ty && is_integer b.ty then moved t a b true else arithmetic Sub a b

-- ---- comparisons

abbrev pub compared : Cmp → Value → Value → Value
compared c a b =
    let t = common_type a b in int_value (core.compare c t (converted t a) (converted t b)) I32

-- a pointer as it is compared; comparisons cast none
abbrev pub bare : Value → core.Expr
bare v = if v.is_null then core.null_value else v.expr

abbrev pub pointers_compared : Cmp → Value → Value → Value
pointers_compared c a b = int_value (core.ptr_compare c (bare a) (bare b)) I32

-- one is a pointer, and the other an integer that is no null constant
abbrev pub are_mixed : Value → Value → Bool
are_mixed a b = if is_pointer a.ty then is_mixed a.ty b else if is_pointer b.ty then is_mixed b.ty a else false

-- pointers of different types, where null is of each; of void it is allowed beside another
abbrev pub are_foreign : Value → Value → Bool
are_foreign a b = not (is_null_either a b) && not (are_compatible a.ty b.ty)

-- `<`, `>`, `<=` and `>=`: two integers, or two pointers of one type, of which null is none (C11 6.5.8p2)
unfoldable pub ordered : Cmp → Value → Value → Result Value ℕ
ordered c a b =
    if are_integers a b then Ok (compared c a b)
    else if not (is_scalar a.ty && is_scalar b.ty) then Err kinds.type_mismatch
    else if is_null_either a b then Err kinds.type_mismatch
    else if are_mixed a b then Err kinds.pointer_to_integer
    else if is_same a.ty b.ty then Ok (pointers_compared c a b)
    else Err kinds.incompatible_pointers

-- `==` and `!=`: two integers, or two pointers of one type, or one of them null or to void (C11 6.5.9p2)
unfoldable pub equated : Cmp → Value → Value → Result Value ℕ
equated c a b =
    if are_integers a b then Ok (compared c a b)
    else if not (is_scalar a.ty && is_scalar b.ty) then Err kinds.type_mismatch
    else if are_mixed a b then Err kinds.pointer_to_integer
    else if are_foreign a b then Err kinds.incompatible_pointers
    else Ok (pointers_compared c a b)

-- ---- truths

-- `&&` and `||` take two scalars, and give int (C11 6.5.13p2 and 6.5.14p2)
unfoldable pub both : Value → Value → Result Value ℕ
both a b =
    if is_scalar a.ty && is_scalar b.ty then Ok (int_value (core.logical_and a.expr b.expr) I32)
    else Err kinds.type_mismatch

unfoldable pub either : Value → Value → Result Value ℕ
either a b =
    if is_scalar a.ty && is_scalar b.ty then Ok (int_value (core.logical_or a.expr b.expr) I32)
    else Err kinds.type_mismatch

-- ---- `? :`

abbrev pub numbers_chosen : core.Expr → Value → Value → Value
numbers_chosen e a b =
    let t = common_type a b in int_value (core.conditional e (converted t a) (converted t b)) t

-- the type of a pointer that is one of two: that of the other where one is null, else `void *` where one is (C11
-- 6.5.15p6)
abbrev pub chosen_type : Value → Value → CType
chosen_type a b =
    if a.is_null && b.is_null then void_pointer
    else if a.is_null then b.ty
    else if b.is_null then a.ty
    else if is_void_pointer b.ty then b.ty
    else a.ty

abbrev pub pointers_chosen : core.Expr → Value → Value → Value
pointers_chosen e a b =
    let c = chosen_type a b in plain_value (core.conditional e (as_pointer c a) (as_pointer c b)) c

-- two integers, or two pointers by the rule of `==` (C11 6.5.15p2 and p3)
unfoldable pub chosen : Value → Value → Value → Result Value ℕ
chosen e a b =
    if not (is_scalar e.ty && (is_scalar a.ty && is_scalar b.ty)) then Err kinds.type_mismatch
    else if are_integers a b then Ok (numbers_chosen e.expr a b)
    else if are_mixed a b then Err kinds.pointer_to_integer
    else if are_foreign a b then Err kinds.incompatible_pointers
    else Ok (pointers_chosen e.expr a b)

-- ---- one operand

-- `+`: a promoted integer (C11 6.5.3.3p2)
unfoldable pub kept : Value → Result Value ℕ
kept a = if is_integer a.ty then Ok (int_value (promoted_value a) (promoted_type a)) else Err kinds.type_mismatch

-- `-`: what is left of 0 (C11 6.5.3.3p3)
abbrev pub opposite : Value → Value
opposite a =
    let t = promoted_type a in int_value (core.binary Sub t (core.const t (pos 0)) (promoted_value a)) t

unfoldable pub negated : Value → Result Value ℕ
negated a = if is_integer a.ty then Ok (opposite a) else Err kinds.type_mismatch

-- `~`: all bits turned (C11 6.5.3.3p4)
abbrev pub turned : Value → Value
turned a =
    let t = promoted_type a in
    int_value (core.binary Xor t (promoted_value a) (core.const t (wrapped t (negsuc 0)))) t

unfoldable pub complemented : Value → Result Value ℕ
complemented a = if is_integer a.ty then Ok (turned a) else Err kinds.type_mismatch

-- `!`: of a scalar, and int (C11 6.5.3.3p5)
unfoldable pub denied : Value → Result Value ℕ
denied a = if is_scalar a.ty then Ok (int_value (core.logical_not a.expr) I32) else Err kinds.type_mismatch

-- ---- by marks

abbrev pub binary_of : ℕ → BinOp
binary_of m =
    if m == mark.star then Mul
    else if m == mark.slash then Div
    else if m == mark.percent then Rem
    else if m == mark.ampersand then And
    else if m == mark.bar then Or
    else Xor

abbrev pub is_ordering : ℕ → Bool
is_ordering m = m == mark.less || m == mark.greater || m == mark.less_equal || m == mark.greater_equal

abbrev pub ordering_of : ℕ → Cmp
ordering_of m =
    if m == mark.less then Lt else if m == mark.greater then Gt else if m == mark.less_equal then Le else Ge

-- an operator that takes numbers alone
unfoldable pub operated_on_numbers : (mark : ℕ) → Value → Value → Result Value ℕ
operated_on_numbers m a b =
    if m == mark.left_shift then shifted Shl a b
    else if m == mark.right_shift then shifted Shr a b
    else arithmetic (binary_of m) a b

-- an operator that compares, or joins truths
unfoldable pub decided : (mark : ℕ) → Value → Value → Result Value ℕ
decided m a b =
    if m == mark.equal_equal then equated Eq a b
    else if m == mark.not_equal then equated Ne a b
    else if m == mark.and_and then both a b
    else if m == mark.bar_bar then either a b
    else ordered (ordering_of m) a b

abbrev pub decides : ℕ → Bool
decides m =
    m == mark.equal_equal || m == mark.not_equal || m == mark.and_and || m == mark.bar_bar || is_ordering m

-- an operator of two operands
unfoldable pub operated : Table → (mark : ℕ) → Value → Value → Result Value ℕ
operated t m a b =
    if m == mark.plus then added t a b
    else if m == mark.minus then subtracted t a b
    else if decides m then decided m a b
    else operated_on_numbers m a b

-- an operator of one value: `+`, `-`, `~` or `!`
unfoldable pub unary_operated : (mark : ℕ) → Value → Result Value ℕ
unary_operated m a =
    if m == mark.plus then kept a
    else if m == mark.minus then negated a
    else if m == mark.tilde then complemented a
    else denied a
