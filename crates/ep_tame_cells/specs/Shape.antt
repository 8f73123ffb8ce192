-- Where the cells of a tame program lie: one of both memories at each leaf of a block, and one at each byte outside of
-- all leaves, in some of the blocks (this project's rule).
use Rattle.std.specs.Prelude.{◌≡◌, ℕ, ◌<◌, Bool, true, false, List, Option, Some, None, slice_get}
use Rattle.ep_int.specs.declared.types.IntType.TheVariants.{U8}
use Rattle.ep_int.specs.declared.types.Scalar.{Scalar}
use Rattle.ep_int.specs.declared.types.Scalar.TheVariants.{Int}
use Rattle.ep_layout.specs.Table.{Table, leaves}
use Rattle.ep_bitslice.specs.declared.cell.Side.TheVariants.{Shared}
use Rattle.ep_cells.specs.declared.cell.Cell.{Cell}
use Rattle.ep_cells.specs.Cells.{IsIn}
use Rattle.ep_cells.specs.Kill.{leaf_at, is_in_leaf}
use Rattle.ep_cells.specs.States.{AreCells}
use Rattle.ep_core.specs.Program.{Block, Program}

-- a byte outside of all leaves is one of type unsigned char
abbrev pub outside_leaves : (inside : Bool) → Option Scalar
outside_leaves true = None
outside_leaves false = Some (Int U8)

abbrev pub or_outside : Option Scalar → (inside : Bool) → Option Scalar
or_outside None inside = outside_leaves inside
or_outside (Some w) inside = Some w

-- the type of the cell that begins at an offset of an object, if there is one
abbrev pub cell_type : Table → (ty offset : ℕ) → Option Scalar
cell_type t ty q = or_outside (leaf_at (leaves t ty) q) (is_in_leaf t.model (leaves t ty) q)

module _ {N : Type 0} (p : Program) where
  -- one of the cells of a block
  pub record IsLeafCell (c : Cell N) : Type 0 where
    pub of_block : Block
    pub there : slice_get p.blocks c.block ≡ Some of_block
    pub side : c.side ≡ Shared
    pub inside : c.offset < of_block.size
    pub what : cell_type p.types of_block.ty c.offset ≡ Some c.what

  -- a cell of this place and type
  pub record HasCellAt (cs : List (Cell N)) (b q : ℕ) (w : Scalar) : Type 0 where
    pub cell : Cell N
    pub is_in : IsIn cell cs
    pub block : cell.block ≡ b
    pub offset : cell.offset ≡ q
    pub what : cell.what ≡ w

  -- all cells of a block are there
  abbrev pub IsCovered : List (Cell N) → ℕ → Type 0
  IsCovered cs b =
      (k : Block) → slice_get p.blocks b ≡ Some k → (q : ℕ) → q < k.size → (w : Scalar)
      → cell_type p.types k.ty q ≡ Some w → HasCellAt cs b q w

  -- cells of whole blocks
  pub record HasShape (cs : List (Cell N)) : Type 0 where
    pub cells : AreCells p.types.model cs
    pub leaf : (c : Cell N) → IsIn c cs → IsLeafCell c
    pub whole : (c : Cell N) → IsIn c cs → IsCovered cs c.block
