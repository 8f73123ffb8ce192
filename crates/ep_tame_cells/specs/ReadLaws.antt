-- At each scalar of a block that has all its cells lies a cell of both memories, and that cell is what is read there on
-- either side.
use Rattle.std.specs.Prelude.{◌≡◌, ℕ, true, List, [], ◌∷◌, Some, slice_get, IsTrue}
use Rattle.ep_int.specs.declared.types.Scalar.{Scalar}
use Rattle.ep_layout.specs.Table.{IsBuilt, size, scalar_of}
use Rattle.ep_bitslice.specs.declared.cell.Side.{Side}
use Rattle.ep_bitslice.specs.declared.cell.Side.TheVariants.{Left, Right}
use Rattle.ep_domain.specs.Domain.{Ops}
use Rattle.ep_cells.specs.declared.cell.Cell.{Cell}
use Rattle.ep_cells.specs.Cells.{IsIn}
use Rattle.ep_cells.specs.States.{Known}
use Rattle.ep_reads.specs.Read.{read, whole_read}
use Rattle.ep_cell_ranges.specs.Spots.{Spot}
use Rattle.ep_core.specs.Program.{Block, Program}
use Rattle.ep_evaluation.specs.Accesses.{reads_of, are_shared}
use Rattle.ep_kinds.specs.Tame.{are_tame_types}
use Rattle.ep_kinds.specs.Rows.{HasScalar}
use Rattle.ep_tame_cells.specs.Shared.{AreSharedCells}
use Rattle.ep_tame_cells.specs.Shape.{HasCellAt, IsCovered}

-- a cell of this type at each of the places
abbrev pub HaveCells : {N : Type 0} → Program → List (Cell N) → Scalar → List Spot → Type 0
HaveCells p cs w [] = Unit {0}
HaveCells p cs w (q ∷ qs) = HasCellAt p cs q.0 q.1 w × HaveCells p cs w qs

pub record ReadLaws {N : Type 0} (D : Ops N) : Type 0 where
  pub stands : (p : Program) (cs : List (Cell N)) (b : ℕ) (k : Block) (o ty : ℕ) (w : Scalar) → IsBuilt p.types
      → IsTrue (are_tame_types p.types) → slice_get p.blocks b ≡ Some k → size p.types k.ty ≡ Some k.size
      → IsCovered p cs b → HasScalar p.types k.ty o ty → scalar_of p.types ty ≡ Some w → HasCellAt p cs b o w
  pub read : (k : Known N) (s : Side) (c : Cell N) → AreSharedCells k.model k.cells → IsIn c k.cells
      → read D k s c.block c.offset c.what ≡ whole_read D c.what c
  -- where each place has a cell, both sides read the same, and all of it of cells of both memories
  pub alike : (p : Program) (k : Known N) (w : Scalar) (qs : List Spot) → AreSharedCells k.model k.cells
      → HaveCells p k.cells w qs → reads_of D k Left w qs ≡ reads_of D k Right w qs
  pub shared : (p : Program) (k : Known N) (s : Side) (w : Scalar) (qs : List Spot) → AreSharedCells k.model k.cells
      → HaveCells p k.cells w qs → are_shared k s w qs ≡ true
