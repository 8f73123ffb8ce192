-- Memories after changes of ranges, and new cells of a place.
use Rattle.std.specs.Prelude.{◌≡◌, ℕ, ◌+◌, ◌^◌, ◌<◌, ◌≤◌, Bool, true, false, List, [], ◌∷◌, Some, None}
use Rattle.ep_int.specs.declared.types.Model.{Model}
use Rattle.ep_int.specs.declared.types.IntType.TheVariants.{U8}
use Rattle.ep_int.specs.declared.types.Scalar.{Scalar}
use Rattle.ep_int.specs.declared.types.Scalar.TheVariants.{Int}
use Rattle.ep_int.specs.Types.{size_of}
use Rattle.ep_int.specs.Memory.{Memory, number}
use Rattle.ep_layout.specs.declared.types.Leaf.{Leaf}
use Rattle.ep_bitslice.specs.declared.cell.Side.{Side}
use Rattle.ep_bitslice.specs.declared.cell.Side.TheVariants.{Shared}
use Rattle.ep_domain.specs.Domain.{Ops}
use Rattle.ep_cells.specs.declared.cell.Cell.{Cell}
use Rattle.ep_cells.specs.declared.place.ByteRange.{ByteRange}
use Rattle.ep_cells.specs.Cells.{on_left, on_right, place_of, meets, encloses, IsIn}
use Rattle.ep_cells.specs.Kill.{leaf_at, is_in_leaf}
use Rattle.ep_cells.specs.States.{Known, HasForm, EachPair, IsCell}
use Rattle.ep_cells.specs.Meaning.{Memories}
use Rattle.ep_cells.specs.Memories.{is_byte_of, IsBroken}
use Rattle.ep_cells.specs.Sound.{SaysNew}
use Rattle.ep_cell_ranges.specs.Spots.{Spot}

-- ---- a place is written

-- On a side that is written all beside the place is as it was, but for pointers that lie partly in it; on the other
-- side all is.
pub record IsStored (d : Model) (p : ByteRange) (here : Bool) (m n : Memory) : Type 0 where
  pub stored : here ≡ true → IsBroken d p m n
  pub stays : here ≡ false → (b q : ℕ) → n b q ≡ m b q

pub record AreStored (d : Model) (p : ByteRange) (m n : Memories) : Type 0 where
  pub left : IsStored d p (on_left p.side) m.left n.left
  pub right : IsStored d p (on_right p.side) m.right n.right

-- ---- new cells of a place

-- the cell lies in the place, on sides of it
pub record IsInside {N : Type 0} (d : Model) (p : ByteRange) (c : Cell N) : Type 0 where
  pub left : on_left c.side ≡ true → on_left p.side ≡ true
  pub right : on_right c.side ≡ true → on_right p.side ≡ true
  pub block : c.block ≡ p.block
  pub bytes : encloses p (place_of d c) ≡ true

-- no byte is in both
abbrev pub Misses : {N : Type 0} → Model → Cell N → Cell N → Type 0
Misses d x y = meets (place_of d x) (place_of d y) ≡ false

-- New cells of a place are cells, lie in it and have no byte in common. Their forms mention cells of cs.
pub record AreNew {N : Type 0} (d : Model) (p : ByteRange) (cs new : List (Cell N)) : Type 0 where
  pub each : (c : Cell N) → IsIn c new → IsCell d c
  pub inside : (c : Cell N) → IsIn c new → IsInside d p c
  pub apart : EachPair (Misses d) new
  pub forms : (c : Cell N) → IsIn c new → HasForm cs c

-- what the new cells say holds of the new memories, where their forms have numbers in the old ones
abbrev pub SayNew : {N : Type 0} → Ops N → Known N → List (Cell N) → (m n : Memories) → Type 0
SayNew {N = N} D k new m n = (c : Cell N) → IsIn c new → SaysNew D k c m n

-- ---- a place may have been written, in whatever way

-- a byte of the place that is a number is below 256
pub record AreBytes (p : ByteRange) (n : Memory) : Type 0 where
  pub below : (b q v : ℕ) → is_byte_of p b q ≡ true → n b q ≡ number v → v < 256

-- One memory as it was, or, where its side may be written, with any bytes in the place; pointers that lie partly in it
-- are then undefined.
pub data MayBeChanged (d : Model) (p : ByteRange) (here : Bool) (m n : Memory) : Type 0 where
  unchanged : ((b q : ℕ) → n b q ≡ m b q) → MayBeChanged d p here m n
  changed : here ≡ true → IsBroken d p m n → AreBytes p n → MayBeChanged d p here m n

-- each memory by itself
pub record MayBothBeChanged (d : Model) (p : ByteRange) (m n : Memories) : Type 0 where
  pub left : MayBeChanged d p (on_left p.side) m.left n.left
  pub right : MayBeChanged d p (on_right p.side) m.right n.right

-- a place is one of a list's
pub data IsAmong (q : Spot) : List Spot → Type 0 where
  at_first : (qs : List Spot) → IsAmong q (q ∷ qs)
  behind : (r : Spot) (qs : List Spot) → IsAmong q qs → IsAmong q (r ∷ qs)

-- At each of these places the cell is one, and a Shared one where Shared cells stay.
pub record FitEach {N : Type 0} (d : Model) (c : Spot → Cell N) (stays : Bool) (qs : List Spot) : Type 0 where
  pub cell : (q : Spot) → IsAmong q qs → IsCell d (c q)
  pub shared : (q : Spot) → IsAmong q qs → stays ≡ true → (c q).side ≡ Shared

-- ---- copies

-- as many bytes of the same side, from there on
abbrev pub moved_place : ByteRange → Spot → ByteRange
moved_place p to = record p { block = to.0; offset = to.1 }

-- the bytes of a place are those of another one
abbrev pub IsCopied : ByteRange → Spot → (m n : Memory) → Type 0
IsCopied p to m n = (j : ℕ) → j < p.bytes → n to.0 (to.1 + j) ≡ m p.block (p.offset + j)

-- on its sides
pub record AreCopied (p : ByteRange) (to : Spot) (m n : Memories) : Type 0 where
  pub left : on_left p.side ≡ true → IsCopied p to m.left n.left
  pub right : on_right p.side ≡ true → IsCopied p to m.right n.right

-- ---- blocks whose bytes all have values

-- where a cell lies, and its type
pub record IsPlaced {N : Type 0} (s : Side) (b q : ℕ) (w : Scalar) (c : Cell N) : Type 0 where
  pub side : c.side ≡ s
  pub block : c.block ≡ b
  pub offset : c.offset ≡ q
  pub what : c.what ≡ w

-- a cell that lies there is one, and its form mentions no cell
pub record IsMade {N : Type 0} (d : Model) (s : Side) (b q : ℕ) (w : Scalar) (c : Cell N) : Type 0 where
  pub placed : IsPlaced s b q w c
  pub cell : q + size_of d w ≤ 2 ^ 32 → IsCell d c
  pub form : HasForm [] c

-- what cells of a block are made of: its leaves, and its bytes outside of all leaves
pub record AreMade {N : Type 0} (d : Model) (s : Side) (b : ℕ) (leaf : ℕ → Scalar → Cell N) (byte : ℕ → Cell N) : Type 0
  where
    pub leaves : (q : ℕ) (w : Scalar) → IsMade d s b q w (leaf q w)
    pub bytes : (q : ℕ) → IsMade d s b q (Int U8) (byte q)

-- a cell is that of a leaf in n bytes from q on, or of a byte there outside of all leaves
pub data IsFilled {N : Type 0} (d : Model) (leaf : ℕ → Scalar → Cell N) (byte : ℕ → Cell N) (leaves : List Leaf)
    (q n : ℕ) (c : Cell N) : Type 0 where
  of_leaf : (o : ℕ) (w : Scalar) → q ≤ o → o < q + n → leaf_at leaves o ≡ Some w → c ≡ leaf o w
      → IsFilled d leaf byte leaves q n c
  of_byte : (o : ℕ) → q ≤ o → o < q + n → leaf_at leaves o ≡ None → is_in_leaf d leaves o ≡ false → c ≡ byte o
      → IsFilled d leaf byte leaves q n c
