-- Cells that a copy takes from a place and puts into another, where a state stands for one pair of memories alone
-- (C11 6.5.16.1p3 and 7.24.2.1; the cells are this project's rules).
use Rattle.std.specs.Prelude.{◌≡◌, ℕ, ◌+◌, ◌^◌, ◌≤◌, Bool, true, false}
use Rattle.ep_int.specs.declared.types.Model.{Model}
use Rattle.ep_int.specs.Memory.{Memory}
use Rattle.ep_bitslice.specs.declared.cell.Side.TheVariants.{Shared}
use Rattle.ep_domain.specs.Domain.{Ops}
use Rattle.ep_cells.specs.declared.cell.Cell.{Cell}
use Rattle.ep_cells.specs.declared.place.ByteRange.{ByteRange}
use Rattle.ep_cells.specs.Cells.{IsIn, is_same_side}
use Rattle.ep_cells.specs.States.{Known}
use Rattle.ep_cells.specs.Meaning.{Memories}
use Rattle.ep_cell_ranges.specs.Moves.{taken, taken_by_both}
use Rattle.ep_cell_ranges.specs.Spots.{Spot}
use Rattle.ep_core.specs.Runs.{left, right}
use Rattle.ep_transfers.specs.Copies.{moved_alone, moved_both}
use Rattle.ep_transfers.proofs.Copied.{copied_memory}
use Rattle.ep_singles.specs.Cells.{IsOneCell, IsOne}

-- A memory after n bytes are copied from a place to another, where they are copied here; else it is as it was.
pub record IsCopiedAt (d : Model) (aggregate : Bool) (to from : Spot) (n : ℕ) (here : Bool) (m o : Memory) : Type 0
  where
    pub copied : here ≡ true → (b j : ℕ) → o b j ≡ copied_memory d aggregate to from n m b j
    pub stays : here ≡ false → (b j : ℕ) → o b j ≡ m b j

module _ {N : Type 0} (D : Ops N) where
  -- of a place of one side, or of both
  pub record TakesOne (k : Known N) : Type 0 where
    pub alone : (p : ByteRange) → is_same_side p.side Shared ≡ false → (c : Cell N) → IsIn c (taken D k p)
        → IsOneCell D c
    pub both : (p : Spot) (n : ℕ) (c : Cell N) → IsIn c (taken_by_both D k p n) → IsOneCell D c

  abbrev pub TakenAreOne : Type 0
  TakenAreOne = (k : Known N) (m : Memories) → IsOne D k m → TakesOne k

  -- the left machine copies, the right one, or both from one place to one
  pub record MovesOne (k : Known N) (m o : Memories) (aggregate : Bool) (to from : Spot) (n : ℕ) : Type 0 where
    pub on_left : IsCopiedAt k.model aggregate to from n true m.left o.left
        → IsCopiedAt k.model aggregate to from n false m.right o.right
        → IsOne D (moved_alone D left aggregate to from n k) o
    pub on_right : IsCopiedAt k.model aggregate to from n false m.left o.left
        → IsCopiedAt k.model aggregate to from n true m.right o.right
        → IsOne D (moved_alone D right aggregate to from n k) o
    pub on_both : IsCopiedAt k.model aggregate to from n true m.left o.left
        → IsCopiedAt k.model aggregate to from n true m.right o.right
        → IsOne D (moved_both D aggregate to from n k) o

  abbrev pub MovesKeepOne : Type 0
  MovesKeepOne =
      (k : Known N) (m o : Memories) → IsOne D k m → (aggregate : Bool) (to from : Spot) (n : ℕ)
      → to.1 + n ≤ 2 ^ 32 → MovesOne k m o aggregate to from n
