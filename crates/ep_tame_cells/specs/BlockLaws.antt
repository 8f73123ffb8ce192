-- A block that is entered or left on both sides has all its cells, and all other cells stay where they are.
use Rattle.std.specs.Prelude.{◌≡◌, ℕ, List, Some, slice_get}
use Rattle.ep_layout.specs.Table.{leaves}
use Rattle.ep_bitslice.specs.declared.cell.Side.TheVariants.{Shared}
use Rattle.ep_domain.specs.Domain.{Ops}
use Rattle.ep_cells.specs.declared.cell.Cell.{Cell}
use Rattle.ep_cells.specs.Kill.{killed_cells}
use Rattle.ep_cells.specs.States.{AreCells}
use Rattle.ep_core.specs.Program.{Block, Program}
use Rattle.ep_tame_cells.specs.Shape.{IsCovered, HasShape}

-- the cells after block b was entered or left
abbrev pub cells_after : {N : Type 0} → Program → (b : ℕ) → Block → List (Cell N) → List (Cell N)
cells_after p b k cs = killed_cells p.types.model Shared b (leaves p.types k.ty) k.size cs

pub record BlockLaws {N : Type 0} (D : Ops N) : Type 0 where
  pub shape : (p : Program) (b : ℕ) (k : Block) (cs : List (Cell N)) → slice_get p.blocks b ≡ Some k → HasShape p cs
      → AreCells p.types.model (cells_after p b k cs) → HasShape p (cells_after p b k cs)
  pub covered : (p : Program) (b : ℕ) (k : Block) (cs : List (Cell N)) → slice_get p.blocks b ≡ Some k
      → IsCovered p (cells_after p b k cs) b
  pub keeps : (p : Program) (b : ℕ) (k : Block) (cs : List (Cell N)) → slice_get p.blocks b ≡ Some k → HasShape p cs
      → (c : ℕ) → IsCovered p cs c → IsCovered p (cells_after p b k cs) c
