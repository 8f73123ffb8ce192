-- What a store holds: the bytes of each block.
use Rattle.std.specs.Prelude.{◌≡◌, ℕ, ◌+◌, ◌<◌, ◌≤◌, ℤ, unsigned_abs, Bool, false, ◌&&◌, not, nat_eq, nat_lt}
use Rattle.std.specs.Prelude.{if◌then◌else◌, Option, Some, None, List, length, slice_index_or}
use Rattle.ep_int.specs.declared.types.Model.{Model}
use Rattle.ep_int.specs.Memory.{Byte, undefined, number, Memory, Kind, bounds, overlap, overlaps, is_outside}
use Rattle.ep_int.specs.Memory.{range_fault}
use Rattle.ep_bytes.specs.declared.types.Byte.{Byte as Cell}
use Rattle.ep_bytes.specs.declared.cells.ByteRange.{ByteRange}
use Rattle.ep_bytes.specs.declared.store.Block.{Block}
use Rattle.ep_bytes.specs.View.{byte_in, fault_at, is_below_zero}
use Rattle.ep_bytes.specs.Cells.{cell_at}

-- The blocks stand one after another in one list of bytes.
pub record StoreView : Type 0 where
  pub model : Model
  pub blocks : List Block
  pub cells : List Cell

abbrev pub no_block : Block
no_block = record { start = 0; size = 0; is_zeroed = false }

abbrev pub block_of : List Block → ℕ → Block
block_of blocks b = slice_index_or blocks b no_block

-- how many blocks there are, and how many bytes one has; one that isn't there has none
abbrev pub count_of : StoreView → ℕ
count_of s = length s.blocks

abbrev pub size_in : StoreView → ℕ → ℕ
size_in s b = (block_of s.blocks b).size

-- The byte of each block at each offset. The definition's memory knows no sizes: past its end a block is undefined, or
-- zero bytes since it was zeroed.
abbrev pub past_end : Block → Byte
past_end k = if k.is_zeroed then number 0 else undefined

abbrev pub byte_of_block : List Cell → Block → ℕ → Byte
byte_of_block cells k p = if nat_lt p k.size then byte_in (cell_at cells (k.start + p)) else past_end k

abbrev pub memory_of : List Block → List Cell → Memory
memory_of blocks cells b p = byte_of_block cells (block_of blocks b) p

abbrev pub memory_in : StoreView → Memory
memory_in s = memory_of s.blocks s.cells

-- no byte is defined
abbrev pub blank : Memory
blank b p = undefined

-- ---- places

-- where so many bytes at an offset of a block lie
pub record IsPlace (s : StoreView) (block : ℕ) (offset : ℤ) (n : ℕ) (place : ByteRange) : Type 0 where
  pub start : place.start ≡ (block_of s.blocks block).start
  pub here : place.here ≡ unsigned_abs offset
  pub count : place.count ≡ n
  pub sign : is_below_zero offset ≡ false
  pub inside : is_outside (size_in s block) (unsigned_abs offset) n ≡ false

-- what is wrong with n bytes at an offset of a block, if anything
abbrev pub place_fault : StoreView → (place : ℕ × ℤ) → (n : ℕ) → Option Kind
place_fault s at n = fault_at at.1 (λ p. range_fault (size_in s at.0) p n)

-- a place of n bytes that is outside of its block
abbrev pub IsOutside : StoreView → (block : ℕ) → (offset : ℤ) → (n : ℕ) → Type 0
IsOutside s b offset n = place_fault s (b, offset) n ≡ Some bounds

-- of two things that may be wrong the first
abbrev pub first_fault : Option Kind → Option Kind → Option Kind
first_fault None k = k
first_fault (Some k) other = Some k

-- An assignment between equal places changes nothing.
abbrev pub is_same : (to from : ℕ × ℤ) → (same_place : Bool) → Bool
is_same to from same_place =
    same_place && (nat_eq to.0 from.0 && nat_eq (unsigned_abs to.1) (unsigned_abs from.1))

abbrev pub overlap_fault : (to from : ℕ × ℤ) → (n : ℕ) → (same : Bool) → Option Kind
overlap_fault to from n same =
    if overlaps to.0 (unsigned_abs to.1) from.0 (unsigned_abs from.1) n && not same then Some overlap else None

-- what is wrong with a copy of n bytes, if anything
abbrev pub copy_fault : StoreView → (to from : ℕ × ℤ) → (n : ℕ) → (same : Bool) → Option Kind
copy_fault s to from n same =
    first_fault (place_fault s to n) (first_fault (place_fault s from n) (overlap_fault to from n same))

-- ---- what stays

-- Each block lies in the list of bytes, and before the blocks that follow.
pub record AreLaid (blocks : List Block) (count : ℕ) : Type 0 where
  pub inside : (b : ℕ) → (block_of blocks b).start + (block_of blocks b).size ≤ count
  pub apart : (b c : ℕ) → b < c → c < length blocks
      → (block_of blocks b).start + (block_of blocks b).size ≤ (block_of blocks c).start

-- the same data model, and blocks of the same sizes
pub record IsLike (before after : StoreView) : Type 0 where
  pub model : after.model ≡ before.model
  pub count : count_of after ≡ count_of before
  pub sizes : (b : ℕ) → size_in after b ≡ size_in before b

-- so many undefined bytes more
pub record IsExtended (before after : List Cell) (n : ℕ) : Type 0 where
  pub longer : length after ≡ length before + n
  pub others : (i : ℕ) → cell_at after i ≡ cell_at before i
