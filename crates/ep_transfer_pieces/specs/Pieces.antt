-- The pieces of a copy by leaves and bytes, one offset after the other (this project's rules, after Miné 2006).
use Rattle.std.specs.Prelude.{ℕ, ◌+◌, ◌≤◌, List}
use Rattle.ep_int.specs.Types.{size_of}
use Rattle.ep_bitslice.specs.declared.cell.Side.{Side as CellSide}
use Rattle.ep_domain.specs.Domain.{Ops}
use Rattle.ep_cells.specs.States.{Known, IsOfSort}
use Rattle.ep_cell_ranges.specs.Spots.{Spot}
use Rattle.ep_core.specs.Runs.{Side, left, right}
use Rattle.ep_evaluation.specs.Accesses.{joined_reads}
use Rattle.ep_transfers.specs.Copies as spec
use Rattle.ep_transfers.specs.Places.{moved_spots}
use Rattle.ep_transfer_pieces.specs.declared.on.On.{On}
use Rattle.ep_transfer_pieces.specs.declared.on.On.TheVariants.{Left, Right}
use Rattle.ep_transfer_pieces.specs.declared.walk.Piece.{Piece}
use Rattle.ep_transfer_pieces.specs.declared.walk.Piece.TheVariants.{Nothing, Whole, Byte}

abbrev pub side_of : On → Side
side_of Left = left
side_of Right = right

module _ {N : Type 0} (D : Ops N) where
  abbrev pub piece_view : Piece → spec.Piece D
  piece_view Nothing = spec.none
  piece_view (Whole w) = spec.leaf w
  piece_view Byte = spec.byte

  -- What is read for a piece is of its type, and it ends in the aggregate.
  pub record CanPut (k : Known N) (s : CellSide) (ps : List Spot) (bytes offset : ℕ) (c : spec.Piece D) : Type 0 where
    pub sort : IsOfSort (spec.scalar_of_piece D c)
        (joined_reads D (spec.sources_of D k s c (moved_spots offset ps)))
    pub room : offset + size_of k.model (spec.scalar_of_piece D c) ≤ bytes
