-- Of two states with cells alike, the first widened by the second has a rank that is no greater, and is less where the
-- second isn't within the first.
use Rattle.std.specs.Prelude.{◌≡◌, ℕ, ◌+◌, ◌*◌, ◌<◌, ◌≤◌, false, List}
use Rattle.ep_int.specs.declared.types.Model.{Model}
use Rattle.ep_domain.specs.Domain.{Ops}
use Rattle.ep_cells.specs.declared.cell.Cell.{Cell}
use Rattle.ep_cells.specs.Both.{widened, are_within}
use Rattle.ep_cells.specs.States.{AreCells, HaveCellsAlike}
use Rattle.ep_tame_cells.specs.Rank.{cell_rank, rank, HaveTargetsBelow}

pub record RankLaws {N : Type 0} (D : Ops N) : Type 0 where
  pub bound : (blocks : ℕ) → 0 < blocks → (c : Cell N) → cell_rank D blocks c ≤ 4 + blocks * (D.height + 1)
  pub rises_not : (blocks : ℕ) → 0 < blocks → D.height < 4294967295 → (d : Model) (xs ys : List (Cell N))
      → AreCells d xs → AreCells d ys → HaveCellsAlike xs ys → HaveTargetsBelow blocks ys
      → rank D blocks (widened D xs ys) ≤ rank D blocks xs
  pub falls : (blocks : ℕ) → 0 < blocks → D.height < 4294967295 → (d : Model) (xs ys : List (Cell N))
      → AreCells d xs → AreCells d ys → HaveCellsAlike xs ys → HaveTargetsBelow blocks xs → HaveTargetsBelow blocks ys
      → are_within D ys xs ≡ false → rank D blocks (widened D xs ys) < rank D blocks xs
