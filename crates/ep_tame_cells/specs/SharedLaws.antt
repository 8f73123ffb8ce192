-- Of cells of both memories alone nothing is reshared, parted or split, and where such a cell is written over one of
-- its place and type, all places stay.
use Rattle.std.specs.Prelude.{◌≡◌, true, List}
use Rattle.ep_int.specs.declared.types.Model.{Model}
use Rattle.ep_domain.specs.Domain.{Ops}
use Rattle.ep_cells.specs.declared.cell.Cell.{Cell}
use Rattle.ep_cells.specs.Reshare.{reshared}
use Rattle.ep_cells.specs.Write.{written}
use Rattle.ep_cells.specs.Weaken.{weakened}
use Rattle.ep_cells.specs.Both.{cells_of_both}
use Rattle.ep_cells.specs.States.{Known, HaveCellsAlike}
use Rattle.ep_reads.specs.Unify.{unified, had_by_both}
use Rattle.ep_tame_cells.specs.Shared.{AreShared, AreSharedCells, AreUncrossed, AreHad, IsOverCell}

pub record SharedLaws {N : Type 0} (D : Ops N) : Type 0 where
  pub reshared : (cs : List (Cell N)) → AreShared cs → reshared D cs ≡ cs
  -- of two such states those cells go that the other lacks, and no more
  pub unified : (k : Known N) (ys : List (Cell N)) → AreSharedCells k.model k.cells → AreSharedCells k.model ys
      → AreUncrossed k.model k.cells ys → AreUncrossed k.model ys k.cells
      → unified D k (record k { cells = ys }) ≡ (had_by_both ys k.cells, had_by_both k.cells ys)
  -- a state all of whose places the other has stays as it is
  pub stays : (d : Model) (xs ys : List (Cell N)) → AreSharedCells d xs → AreHad xs ys → had_by_both ys xs ≡ xs
  -- the places of both are those of each
  pub both : (f : N → N → N) (xs ys : List (Cell N)) → HaveCellsAlike xs ys
      → HaveCellsAlike xs (cells_of_both f xs ys)
  pub written : (d : Model) (c : Cell N) (cs : List (Cell N)) → AreSharedCells d cs → IsOverCell c cs
      → HaveCellsAlike cs (written d c cs)
  pub weakened : (d : Model) (c : Cell N) (cs : List (Cell N)) → AreSharedCells d cs → IsOverCell c cs
      → HaveCellsAlike cs (weakened D d c true cs)
  -- cells of places of both memories are of both memories
  pub alike : (xs ys : List (Cell N)) → HaveCellsAlike xs ys → AreShared xs → AreShared ys
