-- The cells that a clear leaves at one place: 0 or null at each leaf, and undefined bytes beside them (this project's
-- rule).
use Rattle.std.specs.Prelude.{ℕ, ◌+◌, Bool, List, Option}
use Rattle.ep_int.specs.declared.types.Model.{Model}
use Rattle.ep_int.specs.declared.types.IntType.TheVariants.{U8}
use Rattle.ep_int.specs.declared.types.Scalar.{Scalar}
use Rattle.ep_int.specs.declared.types.Scalar.TheVariants.{Int}
use Rattle.ep_layout.specs.declared.types.Leaf.{Leaf}
use Rattle.ep_bitslice.specs.declared.cell.Side.{Side as CellSide}
use Rattle.ep_domain.specs.Domain.{Ops}
use Rattle.ep_cells.specs.declared.cell.Cell.{Cell}
use Rattle.ep_cell_ranges.specs.First.{filled_here, filled_from}
use Rattle.ep_cell_ranges.specs.Spots.{Spot}
use Rattle.ep_transfers.specs.Transfers.{zero_item, undefined_item}
use Rattle.ep_transfer_writes.specs.Running.{item_cell}

module _ {N : Type 0} (D : Ops N) (s : CellSide) (to : Spot) where
  abbrev pub zero_cell : (offset : ℕ) → Scalar → Cell N
  zero_cell o w = item_cell D s w (zero_item D w) (to.0, to.1 + o)

  abbrev pub undefined_cell : (offset : ℕ) → Cell N
  undefined_cell o = item_cell D s (Int U8) (undefined_item D) (to.0, to.1 + o)

module _ {N : Type 0} (D : Ops N) (d : Model) (s : CellSide) (to : Spot) where
  -- of a leaf that begins here, or of a byte outside of all leaves
  abbrev pub cells_here : (offset : ℕ) → Option Scalar → (inside : Bool) → List (Cell N)
  cells_here = filled_here d (zero_cell D s to) (undefined_cell D s to)

  -- of so many bytes from an offset on
  abbrev pub cells_from : List Leaf → (offset bytes : ℕ) → List (Cell N)
  cells_from = filled_from d (zero_cell D s to) (undefined_cell D s to)
