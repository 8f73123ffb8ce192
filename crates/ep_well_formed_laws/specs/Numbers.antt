-- The number that a type of C has in a table, if it is there.
use Rattle.std.specs.Prelude.{◌≡◌, ◌⊎◌, ℕ, zero, suc, Bool, true, List, ◌∷◌, nat_eq, slice_get, Option, Some, None}
use Rattle.std.specs.Prelude.{option_and_then}
use Rattle.ep_layout.specs.declared.types.Ty.{Ty}
use Rattle.ep_layout.specs.declared.types.Ty.TheVariants as rows
use Rattle.ep_layout.specs.Table.{Table, AggregateRow, MemberRow, IsBuilt, number_of}
use Rattle.ep_core.specs.WellFormed.{is_length}
use Rattle.ep_typing.specs.declared.types.Base.{Base}
use Rattle.ep_typing.specs.declared.types.Base.TheVariants as bases
use Rattle.ep_typing.specs.declared.types.CType.{CType}
use Rattle.ep_typing.specs.Types.{void_type}

-- an array goes by its number
abbrev pub array_number : ℕ → Option Ty → Option ℕ
array_number n None = None
array_number n (Some rows.Void) = None
array_number n (Some (rows.Int t)) = None
array_number n (Some (rows.Ptr e)) = None
array_number n (Some (rows.Array e k)) = Some n
array_number n (Some (rows.Aggregate a)) = None

abbrev pub number_of_base : Table → Base → Option ℕ
number_of_base t bases.Void = number_of t rows.Void
number_of_base t (bases.Int i) = number_of t (rows.Int i)
number_of_base t (bases.Array n) = array_number n (slice_get t.types n)
number_of_base t (bases.Aggregate a) = number_of t (rows.Aggregate a)

-- the number of the type that is so many pointers to one of this number
abbrev pub number_behind : Table → Option ℕ → (stars : ℕ) → Option ℕ
number_behind t o zero = o
number_behind t o (suc k) = option_and_then (λ n. number_of t (rows.Ptr n)) (number_behind t o k)

abbrev pub type_number : Table → CType → Option ℕ
type_number t c = number_behind t (number_of_base t c.base) c.stars

-- the type is in the table
abbrev pub HasNumber : Table → CType → Type 0
HasNumber t c = (n : ℕ) × (type_number t c ≡ Some n)

-- whether a type may have this number: the one that it has, or any where it has none
abbrev pub may_be : Option ℕ → ℕ → Bool
may_be None ty = true
may_be (Some n) ty = nat_eq n ty

-- A type that is in the table, or void. Nothing but a pointer is needed of void, and a null pointer is one to any type.
abbrev pub IsMade : Table → CType → Type 0
IsMade t c = (c ≡ void_type) ⊎ HasNumber t c

-- a table as declarations make it: built, with arrays of lengths, and aggregates that have a member
pub record IsTable (t : Table) : Type 0 where
  pub built : IsBuilt t
  pub arrays : (n e k : ℕ) → slice_get t.types n ≡ Some (rows.Array e k) → is_length k ≡ true
  pub bodies : (a : ℕ) (g : AggregateRow) (ms : List MemberRow) → slice_get t.aggregates a ≡ Some g
      → g.members ≡ Some ms → (m : MemberRow) × (rest : List MemberRow) × (ms ≡ m ∷ rest)
