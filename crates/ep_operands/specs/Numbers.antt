-- Expressions whose numbers are of the types that are taken where they stand.
use Rattle.std.specs.Prelude.{◌≡◌, Bool, true, ◌&&◌, if◌then◌else◌, List, [], ◌∷◌}
use Rattle.std.specs.List.{list_any, list_all}
use Rattle.ep_int.specs.declared.types.IntType.{IntType}
use Rattle.ep_int.specs.declared.types.IntType.TheVariants.{I8, U8, I16, U16, I32, U32, I64, U64}
use Rattle.ep_int.specs.declared.types.BinOp.{BinOp}
use Rattle.ep_int.specs.declared.types.BinOp.TheVariants.{Add, Sub, Mul, Div, Rem, And, Or, Xor, Shl, Shr}
use Rattle.ep_int.specs.Arith.{is_in_range}
use Rattle.ep_core.specs.Program.{Expr, const, null_value, load, addr_of, binary, convert, compare, ptr_compare}
use Rattle.ep_core.specs.Program.{logical_and, logical_or, logical_not, conditional, ptr_add, cast}
use Rattle.ep_core.specs.WellFormed.{is_same_type}
use Rattle.ep_typing.specs.declared.types.CType.{CType}
use Rattle.ep_typing.specs.Types.{is_pointer, int_of}
use Rattle.ep_typing.specs.Operand.{Value}

abbrev pub all_types : List IntType
all_types = I8 ∷ U8 ∷ I16 ∷ U16 ∷ I32 ∷ U32 ∷ I64 ∷ U64 ∷ []

abbrev pub some : (IntType → Bool) → Bool
some test = list_any test all_types

-- the right operand of an operator: of the operator's type, but the amount of a shift may be of any type
abbrev pub is_right : BinOp → IntType → (IntType → Bool) → Bool
is_right Add t test = test t
is_right Sub t test = test t
is_right Mul t test = test t
is_right Div t test = test t
is_right Rem t test = test t
is_right And t test = test t
is_right Or t test = test t
is_right Xor t test = test t
is_right Shl t test = some test
is_right Shr t test = some test

-- Where an expression is a number known beforehand, it is one of this type, and so is each of its parts of its own.
abbrev pub is_number : Expr → IntType → Bool
is_number (const t v) u = is_same_type t u && is_in_range t v
is_number null_value u = true
is_number (load what p) u = true
is_number (addr_of p) u = true
is_number (binary op t a b) u = is_same_type t u && (is_number a t && is_right op t (is_number b))
is_number (convert t a) u = is_same_type t u && some (is_number a)
is_number (compare c t a b) u = is_same_type I32 u && (is_number a t && is_number b t)
is_number (ptr_compare c a b) u = true
is_number (logical_and a b) u = is_same_type I32 u && (some (is_number a) && some (is_number b))
is_number (logical_or a b) u = is_same_type I32 u && (some (is_number a) && some (is_number b))
is_number (logical_not a) u = is_same_type I32 u && some (is_number a)
is_number (conditional e a b) u = some (is_number e) && (is_number a u && is_number b u)
is_number (ptr_add a unit n back) u = true
is_number (cast a) u = true

abbrev pub IsNumber : Expr → IntType → Type 0
IsNumber e t = is_number e t ≡ true

abbrev pub IsSomeNumber : Expr → Type 0
IsSomeNumber e = some (is_number e) ≡ true

-- An integer is a number of its own type. A pointer is none, and so it has each.
abbrev pub is_sound : Value → Bool
is_sound v = if is_pointer v.ty then list_all (is_number v.expr) all_types else is_number v.expr (int_of v.ty)

abbrev pub IsSound : Value → Type 0
IsSound v = is_sound v ≡ true
