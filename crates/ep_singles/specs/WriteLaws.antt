-- Splits of cells, and new cells in a place, where a state stands for one pair of memories alone.
use Rattle.std.specs.Prelude.{◌≡◌, true, false, List}
use Rattle.ep_bitslice.specs.declared.cell.Side.TheVariants.{Left, Right, Shared}
use Rattle.ep_domain.specs.Domain.{Ops}
use Rattle.ep_cells.specs.declared.cell.Cell.{Cell}
use Rattle.ep_cells.specs.declared.place.ByteRange.{ByteRange}
use Rattle.ep_cells.specs.Cells.{IsIn, on_left, on_right, is_same_side}
use Rattle.ep_cells.specs.States.{Known}
use Rattle.ep_cells.specs.Meaning.{Memories}
use Rattle.ep_reads.specs.Split.{split}
use Rattle.ep_reads.specs.SplitLaws.{AreBroken}
use Rattle.ep_cell_ranges.specs.Ranges.{replaced}
use Rattle.ep_cell_ranges.specs.Sound.{AreStored, AreNew, SayNew}
use Rattle.ep_singles.specs.Cells.{IsOneCell, IsOne}
use Rattle.ep_singles.specs.CellLaws.{IsFilled}

module _ {N : Type 0} (D : Ops N) where
  -- Cells that lie partly in a place of one side are split, and pointers that do become undefined.
  abbrev pub SplitsKeepOne : Type 0
  SplitsKeepOne =
      (k : Known N) (m n : Memories) → IsOne D k m → (p : ByteRange) → is_same_side p.side Shared ≡ false
      → AreBroken k.model p m n → IsOne D (record k { cells = split D k p }) n

  -- New cells, each of one value, take a place; what lies partly in it is split first, and pointers that do become
  -- undefined.
  abbrev pub ReplacesKeepOne : Type 0
  ReplacesKeepOne =
      (k : Known N) (m n : Memories) → IsOne D k m → (p : ByteRange) (new : List (Cell N)) →
      AreNew k.model p k.cells new
      → ((c : Cell N) → IsIn c new → IsOneCell D c) → AreStored k.model p m n → SayNew D k new m n
      → (on_left p.side ≡ true → IsFilled D k p new Left n.left)
      → (on_right p.side ≡ true → IsFilled D k p new Right n.right) → IsOne D (replaced D p new k) n
