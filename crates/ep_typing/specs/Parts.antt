-- Names, numbers, parts of objects, addresses, casts and sizes, with their kinds in order: C11 6.5.1 to 6.5.4.
use Rattle.std.specs.Prelude.{ℕ, ◌==◌, Bool, false, ◌&&◌, not, if◌then◌else◌, List, [], ◌∷◌, ◌++◌, map, Option, Some}
use Rattle.std.specs.Prelude.{None, codes, Result, Ok, Err, pos}
use Rattle.ep_ast.specs.Kind as kinds
use Rattle.ep_int.specs.declared.types.IntType.{IntType}
use Rattle.ep_int.specs.declared.types.IntType.TheVariants.{I8, U8, I16, U16, I32, U32, I64, U64}
use Rattle.ep_int.specs.declared.types.Model.{Model}
use Rattle.ep_int.specs.Types.{wrapped}
use Rattle.ep_ast.specs.declared.expressions.Literal.{Literal}
use Rattle.ep_ast.specs.Mark as mark
use Rattle.ep_layout.specs.Table.{Table, MemberRow, member_named}
use Rattle.ep_core.specs.Program as core
use Rattle.ep_typing.specs.declared.types.CType.{CType}
use Rattle.ep_typing.specs.Results.{◌>>=◌, needed}
use Rattle.ep_typing.specs.Types.{bound_of, element_of, int_type, is_aggregate, is_array, is_integer, is_pointer}
use Rattle.ep_typing.specs.Types.{is_scalar, number_in, number_type, pointer_to, size_of_type, size_type, target}
use Rattle.ep_typing.specs.Types.{type_of}
use Rattle.ep_typing.specs.Env as env
use Rattle.ep_typing.specs.Env.{Env, Meaning, entry, look_up}
use Rattle.ep_typing.specs.Operand.{Operand, place, value, function, Value, Callee, declared, input, output}
use Rattle.ep_typing.specs.Operand.{copy_bytes, fill_bytes, read_bytes, write_bytes, as_type, int_value, is_mixed}
use Rattle.ep_typing.specs.Operand.{null_pointer, plain_value, value_of}
use Rattle.ep_typing.specs.Operators.{moved, unary_operated}

abbrev pub an_operand : Result Value ℕ → Result Operand ℕ
an_operand (Ok v) = Ok (value v)
an_operand (Err k) = Err k

-- ---- numbers and names

-- A number has its type, and 0 is a null constant however it is written (C11 6.4.4.1p5 and 6.3.2.3p3). The reader takes
-- no number that its type doesn't hold.
abbrev pub numbered : Model → Literal → Operand
numbered m n = let t = number_type m n in
    value (record { expr = core.const t (wrapped t (pos n.value)); ty = int_type t; is_null = n.value == 0 })

-- the integer types by the ends of the names of inputs and outputs
abbrev pub ends : List (List ℕ × IntType)
ends =
    (codes "i8", I8) ∷ (codes "u8", U8) ∷ (codes "i16", I16) ∷ (codes "u16", U16)
    ∷ (codes "i32", I32) ∷ (codes "u32", U32) ∷ (codes "i64", I64) ∷ (codes "u64", U64) ∷ []

abbrev pub named_callee : List ℕ → (IntType → Callee) → List ℕ × IntType → List ℕ × Operand
named_callee begin f e = (begin ++ e.0, function (f e.1))

-- what is there without a declaration (C11 7.19 and 7.24.2.1, 7.24.6.1, and this project's inputs and outputs)
abbrev pub built_in : List (List ℕ × Operand)
built_in =
    (codes "NULL", value null_pointer)
    ∷ (codes "memcpy", function copy_bytes) ∷ (codes "memset", function fill_bytes)
    ∷ (codes "ep_read", function read_bytes) ∷ (codes "ep_write", function write_bytes)
    ∷ (map (named_callee (codes "ep_in_") input) ends ++ map (named_callee (codes "ep_out_") output) ends)

-- unknown_name: a name that was not declared before (C11 6.5.1p2). A typedef name is none of an expression.
abbrev pub meant : Option Meaning → Option Operand → Result Operand ℕ
meant (Some (env.variable b c)) o = Ok (place (core.block b) c)
meant (Some (env.function n)) o = Ok (function (declared n))
meant (Some (env.type_name c)) o = Err kinds.unknown_name
meant None o = needed kinds.unknown_name o

unfoldable pub named : Env → List ℕ → Result Operand ℕ
named G t = meant (look_up t G.scopes) (entry t built_in)

-- type_mismatch: a function's name that isn't called (this project's rule)
abbrev pub uncalled : Operand → Result Operand ℕ
uncalled (place p c) = Ok (place p c)
uncalled (value v) = Ok (value v)
uncalled (function f) = Err kinds.type_mismatch

-- a name in an expression, where it isn't called
unfoldable pub named_uncalled : Env → List ℕ → Result Operand ℕ
named_uncalled G t = named G t >>= uncalled

-- ---- addresses

-- `&a[i]` is `a + i` (C11 6.5.3.2p3)
abbrev pub address_of : core.Place → core.Expr
address_of (core.block b) = core.addr_of (core.block b)
address_of (core.deref e) = core.addr_of (core.deref e)
address_of (core.member p offset) = core.addr_of (core.member p offset)
address_of (core.element p bound unit i) = core.ptr_add (core.addr_of p) unit i false

-- type_mismatch: of a function, by this project's rule. not_an_lvalue: of what is no object (C11 6.5.3.2p1).
unfoldable pub addressed : Operand → Result Operand ℕ
addressed (place p c) = Ok (value (plain_value (address_of p) (pointer_to c)))
addressed (value v) = Err kinds.not_an_lvalue
addressed (function f) = Err kinds.type_mismatch

-- type_mismatch: `*` of what is no pointer (C11 6.5.3.2p2)
unfoldable pub pointed : Value → Result Operand ℕ
pointed v = if is_pointer v.ty then Ok (place (core.deref v.expr) (target v.ty)) else Err kinds.type_mismatch

abbrev pub unary_of_value : (mark : ℕ) → Value → Result Operand ℕ
unary_of_value m v = if m == mark.star then pointed v else an_operand (unary_operated m v)

-- an operator of one operand: only `&` takes the object itself
unfoldable pub unary_typed : Table → (mark : ℕ) → Operand → Result Operand ℕ
unary_typed t m x = if m == mark.ampersand then addressed x else value_of t x >>= unary_of_value m

-- ---- elements

abbrev pub is_array_object : Operand → Bool
is_array_object (place p c) = is_array c
is_array_object (value v) = false
is_array_object (function f) = false

-- what stands before an index: an array in place, else a value
unfoldable pub indexable : Table → Operand → Result Operand ℕ
indexable t x = if is_array_object x then Ok x else an_operand (value_of t x)

-- an element of an array in place; the index isn't converted
abbrev pub element_in : Table → core.Place → CType → Value → (unit : ℕ) → Operand
element_in t p c v unit = place (core.element p (bound_of t c) unit v.expr) (element_of t c)

unfoldable pub element_of_array : Table → core.Place → CType → Value → Result Operand ℕ
element_of_array t p c v = do
  unit ← needed kinds.incomplete_type (size_of_type t (element_of t c))
  Ok (element_in t p c v unit)

unfoldable pub element_behind : Table → Value → Value → Result Operand ℕ
element_behind t u v = do
  w ← moved t u v false
  pointed w

-- type_mismatch: not an array or pointer with an integer behind it (C11 6.5.2.1p1). incomplete_type: elements without
-- a size.
unfoldable pub indexed : Table → Operand → Value → Result Operand ℕ
indexed t (place p c) v = if is_integer v.ty then element_of_array t p c v else Err kinds.type_mismatch
indexed t (value u) v = if is_pointer u.ty && is_integer v.ty then element_behind t u v else Err kinds.type_mismatch
indexed t (function f) v = Err kinds.type_mismatch

-- ---- members

abbrev pub member_at : Table → core.Place → MemberRow → Operand
member_at t p m = place (core.member p m.offset) (type_of t m.ty)

unfoldable pub member_of : Table → core.Place → CType → (name : List ℕ) → Result Operand ℕ
member_of t p c n = do
  m ← needed kinds.no_member (member_named t (number_in c.base) n)
  Ok (member_at t p m)

-- type_mismatch: of what is no struct or union. no_member: no such member, as none is of one that isn't completed (C11
-- 6.5.2.3p1).
unfoldable pub selected : Table → Operand → (name : List ℕ) → Result Operand ℕ
selected t (place p c) n = if is_aggregate c then member_of t p c n else Err kinds.type_mismatch
selected t (value v) n = Err kinds.type_mismatch
selected t (function f) n = Err kinds.type_mismatch

-- ---- casts and sizes

-- type_mismatch: not two scalars (C11 6.5.4p2). pointer_to_integer: between a pointer and an integer, by this
-- project's rule.
unfoldable pub casted : CType → Value → Result Value ℕ
casted c v =
    if not (is_scalar c && is_scalar v.ty) then Err kinds.type_mismatch
    else if is_mixed c v then Err kinds.pointer_to_integer
    else Ok (plain_value (as_type c v) c)

-- incomplete_type: a type without a size (C11 6.5.3.4p1); the size is of type size_t (6.5.3.4p5)
unfoldable pub type_sized : Table → CType → Result Value ℕ
type_sized t c = do
  n ← needed kinds.incomplete_type (size_of_type t c)
  Ok (int_value (core.const (size_type t.model) (pos n)) (size_type t.model))

-- type_mismatch: the size of a function (C11 6.5.3.4p1); an array doesn't decay here (6.3.2.1p3)
unfoldable pub sized : Table → Operand → Result Value ℕ
sized t (place p c) = type_sized t c
sized t (value v) = type_sized t v.ty
sized t (function f) = Err kinds.type_mismatch
