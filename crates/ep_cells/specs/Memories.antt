-- Memories after an operation, byte by byte.
use Rattle.std.specs.Prelude.{◌≡◌, ℕ, ◌+◌, Bool, true, false, ◌&&◌, nat_eq, nat_le, nat_lt, [], ◌∷◌}
use Rattle.ep_int.specs.declared.types.Model.{Model}
use Rattle.ep_int.specs.Memory.{Memory, broken, killed}
use Rattle.ep_bitslice.specs.declared.cell.Side.{Side}
use Rattle.ep_cells.specs.declared.place.ByteRange.{ByteRange}
use Rattle.ep_cells.specs.Cells.{on_left, on_right}
use Rattle.ep_cells.specs.Meaning.{Memories}

-- whether a byte is one of a place's
abbrev pub is_byte_of : ByteRange → (block offset : ℕ) → Bool
is_byte_of p b q = nat_eq p.block b && (nat_le p.offset q && nat_lt q (p.offset + p.bytes))

-- bytes of a place may be new, where its side is written; all others are as they were
pub record IsRewritten (p : ByteRange) (written : Bool) (m n : Memory) : Type 0 where
  pub elsewhere : (b q : ℕ) → (written && is_byte_of p b q) ≡ false → n b q ≡ m b q

-- the same of both memories, where the place's side is that of the bytes that are new
pub record AreRewritten (p : ByteRange) (m n : Memories) : Type 0 where
  pub left : IsRewritten p (on_left p.side) m.left n.left
  pub right : IsRewritten p (on_right p.side) m.right n.right

-- Where its side is killed, a block is undefined, and so is each pointer into it; where it isn't, all is as it was.
pub record IsKilled (block : ℕ) (dead : Bool) (m n : Memory) : Type 0 where
  pub gone : dead ≡ true → (b q : ℕ) → n b q ≡ killed (block ∷ []) m b q
  pub alive : dead ≡ false → (b q : ℕ) → n b q ≡ m b q

pub record AreKilled (s : Side) (block : ℕ) (m n : Memories) : Type 0 where
  pub left : IsKilled block (on_left s) m.left n.left
  pub right : IsKilled block (on_right s) m.right n.right

-- Outside of a place a memory is as it was, but that pointers that lie partly in the place are undefined (d is the
-- data
-- model).
pub record IsBroken (d : Model) (p : ByteRange) (m n : Memory) : Type 0 where
  pub beside : (b q : ℕ) → is_byte_of p b q ≡ false → n b q ≡ broken d m p.block p.offset p.bytes b q
