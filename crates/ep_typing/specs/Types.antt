-- Types of C as plain data, beside a table that has the arrays and aggregates: C11 6.2.5, 6.4.4.1 and 6.7.2.
use Rattle.std.specs.Prelude.{ℕ, zero, suc, ◌+◌, ◌-◌, ◌==◌, nat_lt, Bool, true, false, if◌then◌else◌, List, [], ◌∷◌}
use Rattle.std.specs.Prelude.{length, slice_get, Option, Some, None, option_map, unwrap_or, ℤ, pos}
use Rattle.ep_int.specs.declared.types.IntType.{IntType}
use Rattle.ep_int.specs.declared.types.IntType.TheVariants.{I32, U32, I64, U64}
use Rattle.ep_int.specs.declared.types.Model.{Model}
use Rattle.ep_int.specs.declared.types.Model.TheVariants.{Ilp32, Lp64}
use Rattle.ep_int.specs.declared.types.Scalar.{Scalar}
use Rattle.ep_int.specs.declared.types.Scalar.TheVariants as scalars
use Rattle.ep_int.specs.Types.{bytes_of, pointer_bytes}
use Rattle.ep_int.specs.Arith.{is_in_range}
use Rattle.ep_ast.specs.declared.expressions.Literal.{Literal}
use Rattle.ep_layout.specs.declared.types.Ty.{Ty}
use Rattle.ep_layout.specs.declared.types.Ty.TheVariants as rows
use Rattle.ep_layout.specs.Layout.{Layout}
use Rattle.ep_layout.specs.Table.{Table, aggregate_layout, elements_of, number_of, size, type_added}
use Rattle.ep_core.specs.WellFormed.{is_same_type}
use Rattle.ep_typing.specs.declared.types.Base.{Base}
use Rattle.ep_typing.specs.declared.types.Base.TheVariants as bases
use Rattle.ep_typing.specs.declared.types.CType.{CType}

-- ---- building

abbrev pub whole : Base → CType
whole b = record { base = b; stars = 0 }

abbrev pub void_type : CType
void_type = whole bases.Void

abbrev pub int_type : IntType → CType
int_type t = whole (bases.Int t)

abbrev pub with_stars : CType → ℕ → CType
with_stars c n = record { base = c.base; stars = c.stars + n }

abbrev pub pointer_to : CType → CType
pointer_to c = with_stars c 1

-- what a pointer points to
abbrev pub target : CType → CType
target c = record { base = c.base; stars = c.stars - 1 }

abbrev pub void_pointer : CType
void_pointer = pointer_to void_type

-- ---- looking

abbrev pub is_pointer : CType → Bool
is_pointer c = nat_lt 0 c.stars

abbrev pub is_void_base : Base → Bool
is_void_base bases.Void = true
is_void_base (bases.Int t) = false
is_void_base (bases.Array n) = false
is_void_base (bases.Aggregate a) = false

abbrev pub is_int_base : Base → Bool
is_int_base bases.Void = false
is_int_base (bases.Int t) = true
is_int_base (bases.Array n) = false
is_int_base (bases.Aggregate a) = false

abbrev pub is_array_base : Base → Bool
is_array_base bases.Void = false
is_array_base (bases.Int t) = false
is_array_base (bases.Array n) = true
is_array_base (bases.Aggregate a) = false

abbrev pub is_aggregate_base : Base → Bool
is_aggregate_base bases.Void = false
is_aggregate_base (bases.Int t) = false
is_aggregate_base (bases.Array n) = false
is_aggregate_base (bases.Aggregate a) = true

abbrev pub is_void : CType → Bool
is_void c = if is_pointer c then false else is_void_base c.base

abbrev pub is_integer : CType → Bool
is_integer c = if is_pointer c then false else is_int_base c.base

abbrev pub is_array : CType → Bool
is_array c = if is_pointer c then false else is_array_base c.base

abbrev pub is_aggregate : CType → Bool
is_aggregate c = if is_pointer c then false else is_aggregate_base c.base

-- an integer or a pointer (C11 6.2.5p21)
abbrev pub is_scalar : CType → Bool
is_scalar c = if is_pointer c then true else is_int_base c.base

abbrev pub is_void_pointer : CType → Bool
is_void_pointer c = if is_pointer c then is_void (target c) else false

-- the integer type that a type is, where it is one
abbrev pub int_of_base : Base → IntType
int_of_base bases.Void = I32
int_of_base (bases.Int t) = t
int_of_base (bases.Array n) = I32
int_of_base (bases.Aggregate a) = I32

abbrev pub int_of : CType → IntType
int_of c = int_of_base c.base

-- the number of an array type or of an aggregate, where a type is one
abbrev pub number_in : Base → ℕ
number_in bases.Void = 0
number_in (bases.Int t) = 0
number_in (bases.Array n) = n
number_in (bases.Aggregate a) = a

abbrev pub scalar_of : CType → Scalar
scalar_of c = if is_pointer c then scalars.Pointer else scalars.Int (int_of c)

-- ---- equal types (C11 6.2.7; an integer type is one by its size and sign)

abbrev pub is_same_base : Base → Base → Bool
is_same_base bases.Void bases.Void = true
is_same_base (bases.Int t) (bases.Int u) = is_same_type t u
is_same_base (bases.Array m) (bases.Array n) = m == n
is_same_base (bases.Aggregate a) (bases.Aggregate b) = a == b
is_same_base b c = false

abbrev pub is_same : CType → CType → Bool
is_same c d = if c.stars == d.stars then is_same_base c.base d.base else false

-- ---- sizes

abbrev pub base_size : Table → Base → Option ℕ
base_size t bases.Void = None
base_size t (bases.Int i) = Some (bytes_of i)
base_size t (bases.Array n) = size t n
base_size t (bases.Aggregate a) = option_map (λ (l : Layout). l.size) (aggregate_layout t a)

-- the size of a type; none of void and of what isn't completed
abbrev pub size_of_type : Table → CType → Option ℕ
size_of_type t c = if is_pointer c then Some (pointer_bytes t.model) else base_size t c.base

-- ---- types of a table

abbrev pub of_row : (ℕ → CType) → (number : ℕ) → Option Ty → CType
of_row at n None = void_type
of_row at n (Some rows.Void) = void_type
of_row at n (Some (rows.Int t)) = int_type t
of_row at n (Some (rows.Ptr e)) = pointer_to (at e)
of_row at n (Some (rows.Array e k)) = whole (bases.Array n)
of_row at n (Some (rows.Aggregate a)) = whole (bases.Aggregate a)

-- the type of a number behind so many pointers at most
unfoldable pub type_within : Table → ℕ → (number : ℕ) → CType
type_within t zero n = void_type
type_within t (suc k) n = of_row (type_within t k) n (slice_get t.types n)

-- the type of a number; a pointer stands behind what it points to
abbrev pub type_of : Table → (number : ℕ) → CType
type_of t n = type_within t (length t.types) n

-- the type of an array's elements, and how many there are
abbrev pub element_of : Table → CType → CType
element_of t c = type_of t (unwrap_or (option_map (λ (p : ℕ × ℕ). p.0) (elements_of t (number_in c.base))) 0)

abbrev pub bound_of : Table → CType → ℕ
bound_of t c = unwrap_or (option_map (λ (p : ℕ × ℕ). p.1) (elements_of t (number_in c.base))) 0

-- the number of a type that is there
abbrev pub known_number : Table → Ty → ℕ
known_number t row = unwrap_or (number_of t row) 0

-- A base comes into a table; an array is there already.
abbrev pub with_base : Table → Base → Table
with_base t bases.Void = type_added t rows.Void
with_base t (bases.Int i) = type_added t (rows.Int i)
with_base t (bases.Array n) = t
with_base t (bases.Aggregate a) = type_added t (rows.Aggregate a)

abbrev pub base_number : Table → Base → ℕ
base_number t bases.Void = known_number t rows.Void
base_number t (bases.Int i) = known_number t (rows.Int i)
base_number t (bases.Array n) = n
base_number t (bases.Aggregate a) = known_number t (rows.Aggregate a)

-- so many pointers to the type of this number come into a table, one after the other
unfoldable pub with_pointers : Table → (number stars : ℕ) → Table
with_pointers t n zero = t
with_pointers t n (suc k) = let u = type_added t (rows.Ptr n) in with_pointers u (known_number u (rows.Ptr n)) k

-- A type comes into a table: its base, then each of its pointers. An equal type keeps its number.
abbrev pub with_c_type : Table → CType → Table
with_c_type t c = let u = with_base t c.base in with_pointers u (base_number u c.base) c.stars

-- the number of the type that is so many pointers to that of this number
unfoldable pub pointer_number : Table → (number stars : ℕ) → ℕ
pointer_number t n zero = n
pointer_number t n (suc k) = pointer_number t (known_number t (rows.Ptr n)) k

-- the number of a type that is there
abbrev pub c_type_number : Table → CType → ℕ
c_type_number t c = pointer_number t (base_number t c.base) c.stars

-- ---- types by model

-- what `long` is, and what `sizeof` gives (this project's data models)
abbrev pub long_type : Model → (is_unsigned : Bool) → IntType
long_type Ilp32 u = if u then U32 else I32
long_type Lp64 u = if u then U64 else I64

abbrev pub size_type : Model → IntType
size_type m = long_type m true

-- ---- the type of a number (C11 6.4.4.1p5)

-- the suffix asks for 64 bits: `ll`, and `l` where long has them
abbrev pub is_long : Model → Literal → Bool
is_long Ilp32 n = n.longs == 2
is_long Lp64 n = nat_lt 0 n.longs

-- the types that a number may have, in their order
abbrev pub number_types : Model → Literal → List IntType
number_types m n =
    if is_long m n then (if n.unsigned then U64 ∷ [] else if n.decimal then I64 ∷ [] else I64 ∷ U64 ∷ [])
    else if n.unsigned then U32 ∷ U64 ∷ []
    else if n.decimal then I32 ∷ I64 ∷ []
    else I32 ∷ U32 ∷ I64 ∷ U64 ∷ []

-- the first of them that holds it; the reader takes no number that none of them holds
abbrev pub first_holding : ℤ → List IntType → IntType
first_holding v [] = U64
first_holding v (t ∷ ts) = if is_in_range t v then t else first_holding v ts

abbrev pub number_type : Model → Literal → IntType
number_type m n = first_holding (pos n.value) (number_types m n)
