-- Cells of whole blocks overlap only where they are the same, and stay cells of whole blocks.
use Rattle.std.specs.Prelude.{ℕ, List}
use Rattle.ep_domain.specs.Domain.{Ops}
use Rattle.ep_cells.specs.declared.cell.Cell.{Cell}
use Rattle.ep_cells.specs.States.{AreCells, HaveCellsAlike}
use Rattle.ep_reads.specs.Unify.{had_by_both}
use Rattle.ep_core.specs.Program.{Program}
use Rattle.ep_tame_cells.specs.Shared.{AreSharedCells, AreUncrossed}
use Rattle.ep_tame_cells.specs.Shape.{IsCovered, HasShape}

pub record ShapeLaws {N : Type 0} (D : Ops N) : Type 0 where
  pub shared : (p : Program) (cs : List (Cell N)) → HasShape p cs → AreSharedCells p.types.model cs
  pub uncrossed : (p : Program) (xs ys : List (Cell N)) → HasShape p xs → HasShape p ys
      → AreUncrossed p.types.model xs ys
  -- cells of the same places
  pub alike : (p : Program) (xs ys : List (Cell N)) → HasShape p xs → AreCells p.types.model ys → HaveCellsAlike xs ys
      → HasShape p ys
  pub alike_covers : (p : Program) (xs ys : List (Cell N)) (b : ℕ) → HaveCellsAlike xs ys → IsCovered p xs b
      → IsCovered p ys b
  -- the cells of blocks that another state has too
  pub both : (p : Program) (xs ys : List (Cell N)) → HasShape p xs → HasShape p ys → HasShape p (had_by_both ys xs)
  pub both_cover : (p : Program) (xs ys : List (Cell N)) (b : ℕ) → HasShape p xs → HasShape p ys → IsCovered p xs b
      → IsCovered p ys b → IsCovered p (had_by_both ys xs) b
