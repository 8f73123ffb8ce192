-- What an expression stands for, its value, and what a value becomes where another type is asked: C11 6.3.
use Rattle.std.specs.Prelude.{ℕ, Bool, true, false, ◌&&◌, ◌||◌, not, if◌then◌else◌, Result, Ok, Err}
use Rattle.ep_ast.specs.Kind as kinds
use Rattle.ep_int.specs.declared.types.IntType.{IntType}
use Rattle.ep_int.specs.Arith.{promoted}
use Rattle.ep_layout.specs.Table.{Table}
use Rattle.ep_core.specs.Program as core
use Rattle.ep_core.specs.WellFormed.{is_same_type}
use Rattle.ep_typing.specs.declared.types.CType.{CType}
use Rattle.ep_typing.specs.Types.{element_of, int_of, int_type, is_aggregate, is_array, is_integer, is_pointer}
use Rattle.ep_typing.specs.Types.{is_same, is_scalar, is_void, is_void_pointer, pointer_to, scalar_of, void_pointer}

-- a value with its type; whether it is a null constant: the number 0 as it stands, or NULL (this project's rule)
pub record Value : Type 0 where
  pub expr : core.Expr
  pub ty : CType
  pub is_null : Bool

-- what can be called: a function that was declared, by its number, or a built-in one
pub data Callee : Type 0 where
  declared : (number : ℕ) → Callee
  input : IntType → Callee
  output : IntType → Callee
  copy_bytes : Callee
  fill_bytes : Callee
  read_bytes : Callee
  write_bytes : Callee

-- what an expression stands for: an object, a value, or a function by its name
pub data Operand : Type 0 where
  place : core.Place → CType → Operand
  value : Value → Operand
  function : Callee → Operand

abbrev pub plain_value : core.Expr → CType → Value
plain_value e c = record { expr = e; ty = c; is_null = false }

abbrev pub int_value : core.Expr → IntType → Value
int_value e t = plain_value e (int_type t)

-- NULL is of type `void *` (this project's rule)
abbrev pub null_pointer : Value
null_pointer = record { expr = core.null_value; ty = void_pointer; is_null = true }

-- ---- the value of an operand

-- An array is a pointer to its first element (C11 6.3.2.1p3). An aggregate has no value that an operator takes; here
-- its address stands for it.
abbrev pub loaded : Table → core.Place → CType → Value
loaded t p c =
    if is_array c then plain_value (core.addr_of p) (pointer_to (element_of t c))
    else if is_aggregate c then plain_value (core.addr_of p) c
    else plain_value (core.load (scalar_of c) p) c

-- type_mismatch: a function's name is only called (this project's rule). incomplete_type: an object of type void has
-- no value (C11 6.3.2.2).
unfoldable pub value_of : Table → Operand → Result Value ℕ
value_of t (place p c) = if is_void c then Err kinds.incomplete_type else Ok (loaded t p c)
value_of t (value v) = Ok v
value_of t (function f) = Err kinds.type_mismatch

-- ---- conversions

-- Only where the type changes is there a conversion.
abbrev pub converted : IntType → Value → core.Expr
converted t v = if is_same_type t (int_of v.ty) then v.expr else core.convert t v.expr

-- the integer promotions (C11 6.3.1.1p2)
abbrev pub promoted_type : Value → IntType
promoted_type v = promoted (int_of v.ty)

abbrev pub promoted_value : Value → core.Expr
promoted_value v = converted (promoted_type v) v

-- a value, or null, as a pointer of a type (C11 6.3.2.3p1, p3 and p7)
abbrev pub as_pointer : CType → Value → core.Expr
as_pointer c v = if v.is_null then core.null_value else if is_same c v.ty then v.expr else core.cast v.expr

-- a value as of a scalar type
abbrev pub as_type : CType → Value → core.Expr
as_type c v = if is_pointer c then as_pointer c v else converted (int_of c) v

-- ---- why a value doesn't fit a type (C11 6.5.16.1p1)

-- type_mismatch: not two scalars
abbrev pub are_scalars : CType → CType → Bool
are_scalars c d = is_scalar c && is_scalar d

-- pointer_to_integer: one is a pointer and the other an integer that is no null constant
abbrev pub is_mixed : CType → Value → Bool
is_mixed c v = if is_pointer c then is_integer v.ty && not v.is_null else is_pointer v.ty

-- pointers of one type, or one of them to void
abbrev pub are_compatible : CType → CType → Bool
are_compatible c d = is_same c d || is_void_pointer c || is_void_pointer d

-- incompatible_pointers: pointers of different types
abbrev pub is_foreign : CType → Value → Bool
is_foreign c v = is_pointer c && is_pointer v.ty && not v.is_null && not (are_compatible c v.ty)

-- a value as what is asked: of a parameter, of a function's result
unfoldable pub fitted : CType → Value → Result core.Expr ℕ
fitted c v =
    if not (are_scalars c v.ty) then Err kinds.type_mismatch
    else if is_mixed c v then Err kinds.pointer_to_integer
    else if is_foreign c v then Err kinds.incompatible_pointers
    else Ok (as_type c v)

-- a test takes a scalar (C11 6.8.4.1p1 and 6.8.5p2)
unfoldable pub tested : Value → Result core.Expr ℕ
tested v = if is_scalar v.ty then Ok v.expr else Err kinds.type_mismatch
