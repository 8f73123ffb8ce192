-- The laws of splits and of unification. A state whose cells are split is a state, no cell lies partly in the place any
-- more, and it holds of memories in which pointers that lie partly in the place are undefined.
use Rattle.std.specs.Prelude.{◌≡◌, ℕ, Bool, true, false, List}
use Rattle.ep_int.specs.declared.types.Model.{Model}
use Rattle.ep_int.specs.Memory.{Memory, broken}
use Rattle.ep_bitslice.specs.declared.cell.Side.TheVariants.{Shared}
use Rattle.ep_domain.specs.Domain.{Ops}
use Rattle.ep_cells.specs.declared.cell.Cell.{Cell}
use Rattle.ep_cells.specs.declared.place.ByteRange.{ByteRange}
use Rattle.ep_cells.specs.Cells.{on_left, on_right, is_same_side}
use Rattle.ep_cells.specs.States.{Known, AreCells, HaveCellsAlike}
use Rattle.ep_cells.specs.Look.{is_some_partly_in}
use Rattle.ep_cells.specs.Meaning.{Memories, In}
use Rattle.ep_cells.specs.Sound.{HoldsOfMore}
use Rattle.ep_reads.specs.Split.{split}
use Rattle.ep_reads.specs.Unify.{unified}

-- Where its side is that of the place, pointers that lie partly in the place are undefined; where it isn't, all is
-- as it
-- was.
pub record IsBrokenAt (d : Model) (p : ByteRange) (here : Bool) (m n : Memory) : Type 0 where
  pub here_broken : here ≡ true → (b q : ℕ) → n b q ≡ broken d m p.block p.offset p.bytes b q
  pub whole : here ≡ false → (b q : ℕ) → n b q ≡ m b q

pub record AreBroken (d : Model) (p : ByteRange) (m n : Memories) : Type 0 where
  pub left : IsBrokenAt d p (on_left p.side) m.left n.left
  pub right : IsBrokenAt d p (on_right p.side) m.right n.right

abbrev pub SplitHolds : {N : Type 0} → Ops N → Known N → ByteRange → Known N → Type 0
SplitHolds D k p after = (m n : Memories) → In D k m → AreBroken k.model p m n → In D after n

-- the place is one of the left or of the right side
pub record SplitLaws {N : Type 0} (D : Ops N) : Type 0 where
  pub cells : (k : Known N) (p : ByteRange) → AreCells k.model k.cells → is_same_side p.side Shared ≡ false
      → AreCells k.model (split D k p)
  pub none_cut : (k : Known N) (p : ByteRange) → AreCells k.model k.cells → is_same_side p.side Shared ≡ false
      → is_some_partly_in k.model p (split D k p) ≡ false
  pub holds : (k : Known N) (p : ByteRange) → AreCells k.model k.cells → is_same_side p.side Shared ≡ false
      → SplitHolds D k p (record k { cells = split D k p })

-- k and the cells ys are of two states: what is left of each is a state and holds where it held, and both have cells of
-- the same sides, places and types.
pub record UnifyLaws {N : Type 0} (D : Ops N) : Type 0 where
  pub left_cells : (k : Known N) (ys : List (Cell N)) → AreCells k.model k.cells → AreCells k.model ys
      → AreCells k.model (unified D k (record k { cells = ys })).0
  pub right_cells : (k : Known N) (ys : List (Cell N)) → AreCells k.model k.cells → AreCells k.model ys
      → AreCells k.model (unified D k (record k { cells = ys })).1
  pub alike : (k : Known N) (ys : List (Cell N)) → AreCells k.model k.cells → AreCells k.model ys
      → HaveCellsAlike (unified D k (record k { cells = ys })).0 (unified D k (record k { cells = ys })).1
  pub left_holds : (k : Known N) (ys : List (Cell N)) → AreCells k.model k.cells → AreCells k.model ys
      → HoldsOfMore D k (unified D k (record k { cells = ys })).0
  pub right_holds : (k : Known N) (ys : List (Cell N)) → AreCells k.model k.cells → AreCells k.model ys
      → HoldsOfMore D (record k { cells = ys }) (unified D k (record k { cells = ys })).1
