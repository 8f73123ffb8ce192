-- The laws of the operations: cells that are in order and apart stay so, and what is left holds.
use Rattle.std.specs.Prelude.{◌≡◌, ℕ, ◌^◌, ◌≤◌, Bool, true, List}
use Rattle.ep_int.specs.declared.types.Model.{Model}
use Rattle.ep_layout.specs.declared.types.Leaf.{Leaf}
use Rattle.ep_bitslice.specs.declared.cell.Side.{Side}
use Rattle.ep_bitslice.specs.declared.cell.Side.TheVariants.{Shared}
use Rattle.ep_domain.specs.Domain.{Ops}
use Rattle.ep_cells.specs.declared.cell.Cell.{Cell}
use Rattle.ep_cells.specs.States.{Known, Fits, AreCells, CanWrite, HasRisingBlocks, HaveCellsAlike}
use Rattle.ep_cells.specs.Write.{written}
use Rattle.ep_cells.specs.Both.{joined, widened, are_within}
use Rattle.ep_cells.specs.Weaken.{weakened}
use Rattle.ep_cells.specs.Kill.{AreLeavesIn, killed_cells}
use Rattle.ep_cells.specs.Reshare.{reshared}
use Rattle.ep_cells.specs.Sound.{WriteHolds, WeakWriteHolds, KillHolds, HoldsOfBoth, HoldsOfMore}

pub record WriteLaws {N : Type 0} (D : Ops N) : Type 0 where
  pub cells : (d : Model) (c : Cell N) (cs : List (Cell N)) → AreCells d cs → CanWrite d c cs
      → HasRisingBlocks c.value
      → AreCells d (written d c cs)
  pub holds : (k : Known N) (c : Cell N) → AreCells k.model k.cells → CanWrite k.model c k.cells
      → HasRisingBlocks c.value
      → WriteHolds D k c (record k { cells = written k.model c k.cells })

-- k and the cells ys are of two states that have cells of the same sides, places and types
pub record JoinLaws {N : Type 0} (D : Ops N) : Type 0 where
  pub join_cells : (d : Model) (xs ys : List (Cell N)) → AreCells d xs → AreCells d ys → HaveCellsAlike xs ys
      → AreCells d (joined D xs ys)
  pub join_holds : (k : Known N) (ys : List (Cell N)) → AreCells k.model k.cells → AreCells k.model ys
      → HaveCellsAlike k.cells ys
      → HoldsOfBoth D k ys (joined D k.cells ys)
  pub widen_cells : (d : Model) (xs ys : List (Cell N)) → AreCells d xs → AreCells d ys → HaveCellsAlike xs ys
      → AreCells d (widened D xs ys)
  pub widen_holds : (k : Known N) (ys : List (Cell N)) → AreCells k.model k.cells → AreCells k.model ys
      → HaveCellsAlike k.cells ys
      → HoldsOfBoth D k ys (widened D k.cells ys)

pub record InclusionLaws {N : Type 0} (D : Ops N) : Type 0 where
  pub within_holds : (k : Known N) (ys : List (Cell N)) → AreCells k.model k.cells → are_within D k.cells ys ≡ true
      → HoldsOfMore D k ys

-- Shared cells stay only under a Shared cell.
pub record WeakWriteLaws {N : Type 0} (D : Ops N) : Type 0 where
  pub cells : (d : Model) (c : Cell N) (stays : Bool) (cs : List (Cell N)) → AreCells d cs → Fits d c
      → HasRisingBlocks c.value
      → (stays ≡ true → c.side ≡ Shared) → AreCells d (weakened D d c stays cs)
  pub holds : (k : Known N) (c : Cell N) (stays : Bool) → AreCells k.model k.cells → Fits k.model c
      → HasRisingBlocks c.value
      → (stays ≡ true → c.side ≡ Shared) → WeakWriteHolds D k c stays (record k {
        cells = weakened D k.model c stays
            k.cells;
      })

-- The leaves rise, don't overlap and end inside the size, which is one of 32 bits.
pub record KillLaws {N : Type 0} (D : Ops N) : Type 0 where
  pub cells : (d : Model) (s : Side) (b : ℕ) (leaves : List Leaf) (size : ℕ) (cs : List (Cell N)) → AreCells d cs
      → AreLeavesIn d 0 size leaves → size ≤ 2 ^ 32 → AreCells d (killed_cells d s b leaves size cs)
  pub holds : (k : Known N) (s : Side) (b : ℕ) (leaves : List Leaf) (size : ℕ) → AreCells k.model k.cells
      → AreLeavesIn k.model 0 size leaves → size ≤ 2 ^ 32
      → KillHolds D k s b (record k { cells = killed_cells k.model s b leaves size k.cells })

pub record ReshareLaws {N : Type 0} (D : Ops N) : Type 0 where
  pub cells : (d : Model) (cs : List (Cell N)) → AreCells d cs → AreCells d (reshared D cs)
  pub holds : (k : Known N) → AreCells k.model k.cells → HoldsOfMore D k (reshared D k.cells)
