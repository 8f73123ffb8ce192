-- Pointers over a row of a table: each type stands once, so they form one chain, each the pointer to the one before
-- (C11 6.2.5p20: a pointer type is derived from the type that it points to).
use Rattle.std.specs.Prelude.{◌≡◌, ◌≢◌, ◌<◌, ℕ, zero, suc, List, position, slice_get}
use Rattle.std.specs.Prelude.{Option, Some, option_and_then}
use Rattle.ep_layout.specs.declared.types.Ty.{Ty}
use Rattle.ep_layout.specs.declared.types.Ty.TheVariants.{Ptr}
use Rattle.ep_layout.specs.SameTypes.{is_same_type}
use Rattle.ep_layout.specs.Table.{Table}

-- the row of the pointer to a row, where it is there
abbrev pub next_pointer : List Ty → ℕ → Option ℕ
next_pointer ts n = position (is_same_type (Ptr n)) ts

-- the row that so many pointers over a row come to, where each in turn is there
unfoldable pub row_over : List Ty → (row stars : ℕ) → Option ℕ
row_over ts n zero = Some n
row_over ts n (suc k) = option_and_then (λ m. row_over ts m k) (next_pointer ts n)

abbrev pub pointer_row : Table → (row stars : ℕ) → Option ℕ
pointer_row t n k = row_over t.types n k

-- a row that is no pointer, at which such a chain begins
abbrev pub IsNoPointer : List Ty → ℕ → Type 0
IsNoPointer ts n = (e : ℕ) → slice_get ts n ≢ Some (Ptr e)

-- each pointer's target stands before it
abbrev pub ArePointersBack : List Ty → Type 0
ArePointersBack ts = (n e : ℕ) → slice_get ts n ≡ Some (Ptr e) → e < n
