-- Which cell a byte belongs to, and whether cells lie partly in a place.
use Rattle.std.specs.Prelude.{ℕ, ◌+◌, Bool, ◌&&◌, ◌||◌, nat_eq, nat_lt, nat_le, if◌then◌else◌, List, [], ◌∷◌, Option}
use Rattle.std.specs.Prelude.{Some, None}
use Rattle.std.specs.List.{list_any}
use Rattle.ep_int.specs.declared.types.Model.{Model}
use Rattle.ep_int.specs.Types.{size_of}
use Rattle.ep_bitslice.specs.declared.cell.Side.{Side}
use Rattle.ep_bitslice.specs.declared.cell.Side.TheVariants.{Shared}
use Rattle.ep_cells.specs.declared.cell.Cell.{Cell}
use Rattle.ep_cells.specs.declared.place.ByteRange.{ByteRange}
use Rattle.ep_cells.specs.Cells.{place_of, is_same_side, is_partly_in}

-- whether a cell of that side, or a Shared one, has the byte
abbrev pub covers : {N : Type 0} → Model → Side → (block byte : ℕ) → Cell N → Bool
covers d s b p c =
    (is_same_side c.side s || is_same_side c.side Shared)
    && (nat_eq c.block b && (nat_le c.offset p && nat_lt p (c.offset + size_of d c.what)))

abbrev pub cell_at : {N : Type 0} → Model → Side → (block byte : ℕ) → List (Cell N) → Option (Cell N)
cell_at d s b p [] = None
cell_at d s b p (c ∷ cs) = if covers d s b p c then Some c else cell_at d s b p cs

-- whether some cell has bytes in the place, and others
abbrev pub is_some_partly_in : {N : Type 0} → Model → ByteRange → List (Cell N) → Bool
is_some_partly_in d p cs = list_any (λ c. is_partly_in p (place_of d c)) cs
