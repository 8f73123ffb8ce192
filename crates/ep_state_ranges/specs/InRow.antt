-- Places next to each other, and the cells that stand there (this project's rules, after Miné 2006).
use Rattle.std.specs.Prelude.{◌≡◌, ℕ, ◌≤◌, ◌+◌, ◌-◌, ◌%◌, Bool, ◌&&◌, not, nat_eq, nat_le, if◌then◌else◌, List, []}
use Rattle.std.specs.Prelude.{◌∷◌, length}
use Rattle.ep_int.specs.declared.types.Model.{Model}
use Rattle.ep_int.specs.Types.{size_of}
use Rattle.ep_bitslice.specs.declared.cell.Side.TheVariants.{Shared}
use Rattle.ep_domain.specs.Domain.{Ops}
use Rattle.ep_cells.specs.declared.cell.Cell.{Cell}
use Rattle.ep_cells.specs.declared.place.ByteRange.{ByteRange}
use Rattle.ep_cells.specs.Cells.{place_of, touches, is_same_side, is_same_scalar, each_becomes}
use Rattle.ep_cells.specs.Weaken.{with_join}
use Rattle.ep_cells.specs.States.{Known}
use Rattle.ep_cell_ranges.specs.Moves.{place_at}
use Rattle.ep_cell_ranges.specs.Spots.{Spot}

-- from this offset of the block on, each so many bytes behind the one before it
abbrev pub IsRow : (block offset bytes : ℕ) → List Spot → Type 0
IsRow b a w [] = Unit {0}
IsRow b a w (q ∷ qs) = (q ≡ (b, a)) × IsRow b (a + w) w qs

abbrev pub row_bytes : (bytes : ℕ) → List Spot → ℕ
row_bytes w [] = 0
row_bytes w (q ∷ qs) = w + row_bytes w qs

-- a Shared cell of the type of c, whole cells of that type from the beginning of the place
abbrev pub is_in_row : {N : Type 0} → (bytes : ℕ) → Cell N → ByteRange → Cell N → Bool
is_in_row w c p x =
    is_same_side x.side Shared
    && (is_same_scalar c.what x.what && (nat_le p.offset x.offset && nat_eq ((x.offset - p.offset) % w) 0))

-- cells with bytes in the place that are none of the row
abbrev pub not_in_row : {N : Type 0} → Model → Cell N → ByteRange → Cell N → List (Cell N)
not_in_row d c p x = if touches p (place_of d x) && not (is_in_row (size_of d c.what) c p x) then x ∷ [] else []

-- those with bytes in the place, joined with the value of c
abbrev pub joined_in : {N : Type 0} → Ops N → Model → Cell N → ByteRange → Cell N → List (Cell N)
joined_in D d c p x = if touches p (place_of d x) then with_join D c x ∷ [] else []

-- The places are a row that begins and ends with the place, and each Shared cell is of both memories there: new are
-- those of the row, joined with the value of c, and no other cell has bytes in it.
pub record Faces {N : Type 0} (D : Ops N) (k : Known N) (c : Cell N) (qs : List Spot) (p : ByteRange)
    (new : List (Cell N))
    : Type 0 where
  pub side : c.side ≡ Shared
  pub place : p ≡ place_at c.side (p.block, p.offset) (row_bytes (size_of k.model c.what) qs)
  pub row : IsRow p.block p.offset (size_of k.model c.what) qs
  pub some : 1 ≤ length qs
  pub others : each_becomes (not_in_row k.model c p) k.cells ≡ []
  pub joined : new ≡ each_becomes (joined_in D k.model c p) k.cells
