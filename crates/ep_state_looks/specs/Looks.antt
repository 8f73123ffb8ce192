-- What is looked for among the cells of a state (this project's rules).
use Rattle.std.specs.Prelude.{ℕ, Bool, false, ◌&&◌, if◌then◌else◌, List, [], ◌∷◌, Option, Some, None}
use Rattle.ep_int.specs.declared.types.Model.{Model}
use Rattle.ep_bitslice.specs.declared.cell.Side.TheVariants.{Left, Right, Shared}
use Rattle.ep_domain.specs.Domain.{Ops}
use Rattle.ep_cells.specs.declared.cell.Cell.{Cell}
use Rattle.ep_cells.specs.declared.place.ByteRange.{ByteRange}
use Rattle.ep_cells.specs.Cells.{comes_before, is_same_side, is_same_cell, touches, place_of}
use Rattle.ep_cells.specs.Reshare.{are_same, cell_from}
use Rattle.ep_reads.specs.Single.{Spots, shared_at}
use Rattle.ep_state_looks.specs.declared.twins.Twins.{Twins}

-- Shared places with an offset of this one, of whatever side
abbrev pub met_by : Model → ByteRange → Spots
met_by d p b q w = touches p (shared_at d b q w)

-- a Shared cell with an offset of the place
abbrev pub is_met : {N : Type 0} → Model → ByteRange → Cell N → Bool
is_met d p x = is_same_side x.side Shared && touches p (place_of d x)

-- those that don't come before a cell
abbrev pub from_cell : {N : Type 0} → Cell N → List (Cell N) → List (Cell N)
from_cell x [] = []
from_cell x (y ∷ ys) = if comes_before y x then from_cell x ys else y ∷ ys

-- the first one is like it
abbrev pub begins_like : {N : Type 0} → Cell N → List (Cell N) → Bool
begins_like x [] = false
begins_like x (y ∷ ys) = is_same_cell y x

-- a Left and a Right cell, if they are surely the same
abbrev pub same_twins : {N : Type 0} → Ops N → Option (Cell N) → Option (Cell N) → Option (Twins N)
same_twins D None r = None
same_twins D (Some l) None = None
same_twins D (Some l) (Some r) = if are_same D l r then Some (record { left = l; right = r }) else None

-- those that begin at an offset
abbrev pub twins_at : {N : Type 0} → Ops N → (block offset : ℕ) → List (Cell N) → Option (Twins N)
twins_at D b q cs = same_twins D (cell_from Left b q cs) (cell_from Right b q cs)
