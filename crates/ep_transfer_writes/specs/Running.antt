-- A run of bytes at one place.
use Rattle.std.specs.Prelude.{◌≡◌, ℕ, zero, suc, ◌+◌, Bool, true, ◌&&◌, List, [], ◌∷◌, None}
use Rattle.ep_int.specs.declared.types.IntType.TheVariants.{U8}
use Rattle.ep_int.specs.declared.types.Scalar.{Scalar}
use Rattle.ep_int.specs.declared.types.Scalar.TheVariants.{Int}
use Rattle.ep_bitslice.specs.declared.cell.Side.{Side as CellSide}
use Rattle.ep_bitslice.specs.declared.cell.Side.TheVariants as cell_side
use Rattle.ep_domain.specs.Domain.{Ops}
use Rattle.ep_cells.specs.declared.cell.Cell.{Cell}
use Rattle.ep_cells.specs.Forms.{common_form}
use Rattle.ep_cells.specs.declared.place.ByteRange.{ByteRange}
use Rattle.ep_cell_ranges.specs.Ranges.{Form, replaced, form_by_replace}
use Rattle.ep_cell_ranges.specs.Spots.{Spot}
use Rattle.ep_core.specs.Runs.{left, right}
use Rattle.ep_equalities.specs.declared.pair.Mode.{Mode}
use Rattle.ep_equalities.specs.declared.pair.Mode.TheVariants.{Both, Left, Right}
use Rattle.ep_transfers.specs.Places.{Places}
use Rattle.ep_transfers.specs.Writes as spec

-- Both sides have one form, or one has none: so it is after each change.
pub data Agree (f g : Form) : Type 0 where
  alike : f ≡ g → Agree f g
  none_left : f ≡ None → Agree f g
  none_right : g ≡ None → Agree f g

-- the running side has this one place, or both have it and what waits is one thing
abbrev pub RunsAt : {N : Type 0} → Mode → (same_to : Bool) → Places → spec.Item N → CellSide × Spot → Type 0
RunsAt Both to p i r =
    (r.0 ≡ cell_side.Shared) × (p.left ≡ r.1 ∷ []) × (p.right ≡ r.1 ∷ []) × ((to && i.same) ≡ true)
    × Agree i.pair.left.form i.pair.right.form
RunsAt Left to p i r = (r.0 ≡ cell_side.Left) × (p.left ≡ r.1 ∷ [])
RunsAt Right to p i r = (r.0 ≡ cell_side.Right) × (p.right ≡ r.1 ∷ [])

-- a cell of what waits, on its side of cells
abbrev pub item_cell : {N : Type 0} → Ops N → CellSide → Scalar → spec.Item N → Spot → Cell N
item_cell D cell_side.Left w i q = spec.side_cell D left w i i.pair.left.form q
item_cell D cell_side.Right w i q = spec.side_cell D right w i i.pair.right.form q
item_cell D cell_side.Shared w i q = spec.shared_cell D w i (common_form i.pair.left.form i.pair.right.form) q

-- the first new cell
abbrev pub run_cell : {N : Type 0} → Ops N → CellSide → spec.Item N → Spot → Cell N
run_cell D s i q = item_cell D s (Int U8) i q

-- so many of them, each a byte further on
abbrev pub copies : {N : Type 0} → Cell N → (count : ℕ) → List (Cell N)
copies c zero = []
copies c (suc n) = c ∷ copies (record c { offset = c.offset + 1 }) n

-- where they lie
abbrev pub range_of : {N : Type 0} → Cell N → (count : ℕ) → ByteRange
range_of c n = record { side = c.side; block = c.block; offset = c.offset; bytes = n }

-- all of them are written at once
abbrev pub range_written : {N : Type 0} → Ops N → Cell N → (count : ℕ) → spec.Underway N → spec.Underway N
range_written D c n u =
    spec.underway (replaced D (range_of c n) (copies c n) u.known)
    (spec.formed (form_by_replace D (range_of c n) u.known) u.item)
