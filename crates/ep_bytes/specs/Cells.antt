-- A list of bytes, and what a change of some of them leaves.
use Rattle.std.specs.Prelude.{◌≡◌, ℕ, ◌+◌, ◌-◌, ◌/◌, ◌%◌, ◌<◌, ◌≤◌, ◌⊎◌, Bool, true, false, nat_eq, nat_lt}
use Rattle.std.specs.Prelude.{if◌then◌else◌, List, length, slice_index, slice_index_or}
use Rattle.std.specs.Int.{bit_at}
use Rattle.ep_int.specs.declared.types.Model.{Model}
use Rattle.ep_int.specs.Memory.{lies_partly}
use Rattle.ep_bytes.specs.declared.types.Byte.{Byte}
use Rattle.ep_bytes.specs.declared.types.Byte.TheVariants.{Undefined, Number, Fragment}
use Rattle.ep_bytes.specs.declared.cells.Content.{Content}
use Rattle.ep_bytes.specs.declared.cells.Content.TheVariants as content
use Rattle.ep_bytes.specs.declared.cells.ByteRange.{ByteRange}
use Rattle.ep_bytes.specs.declared.spans.Span.{Span}
use Rattle.ep_bytes.specs.View.{byte_in}

abbrev pub cell_at : List Byte → ℕ → Byte
cell_at cells i = slice_index_or cells i Undefined

-- the number of the part of a pointer that a byte is, or 0
abbrev pub part_of : Byte → ℕ
part_of Undefined = 0
part_of (Number v) = 0
part_of (Fragment b o k) = k

abbrev pub points_to : ℕ → Byte → Bool
points_to block Undefined = false
points_to block (Number v) = false
points_to block (Fragment b o k) = nat_eq b block

-- a byte, where it is no part of a pointer to the block
abbrev pub without : ℕ → Byte → Byte
without block c = if points_to block c then Undefined else c

-- a byte at offset p, where no pointer that it is a part of lies partly in the n bytes from here on
abbrev pub unbroken : Model → (here n : ℕ) → Byte → (p : ℕ) → Byte
unbroken d here n c p = if lies_partly d here n (byte_in c) p then Undefined else c

-- n cells from a place on are these, and all others are as they were
pub record IsWritten (old new : List Byte) (at n : ℕ) (bytes : ℕ → Byte) : Type 0 where
  pub same_length : length new ≡ length old
  pub inside : (k : ℕ) → k < n → cell_at new (at + k) ≡ bytes k
  pub outside : (i : ℕ) → (i < at) ⊎ (at + n ≤ i) → cell_at new i ≡ cell_at old i

-- byte k of what is written
abbrev pub content_at : Content → ℕ → Byte
content_at content.Undefined k = Undefined
content_at (content.Number v) k = Number v
content_at (content.Numbers all) k = Number (if nat_lt k 8 then slice_index all k else 0)
content_at (content.Pointer b o) k = if nat_lt k 8 then Fragment b o k else Undefined

-- byte k of what is copied from a place
abbrev pub taken_from : Model → List Byte → ByteRange → ℕ → Byte
taken_from d cells s k = unbroken d s.here s.count (cell_at cells (s.start + s.here + k)) (s.here + k)

-- the byte at offset low + k of the block, where the pointers that lie partly in the place are undefined
abbrev pub cut_by : Model → List Byte → ByteRange → (low k : ℕ) → Byte
cut_by d cells s low k = unbroken d s.here s.count (cell_at cells (s.start + low + k)) (low + k)

-- In a block of so many bytes, each pointer that lies partly in the place is undefined beside it.
pub record IsBroken (d : Model) (old new : List Byte) (s : ByteRange) (size : ℕ) : Type 0 where
  pub same_length : length new ≡ length old
  pub inside : (p : ℕ) → s.here ≤ p → p < s.here + s.count → cell_at new (s.start + p) ≡ cell_at old (s.start + p)
  pub beside : (p : ℕ) → p < size → (p < s.here) ⊎ (s.here + s.count ≤ p)
      → cell_at new (s.start + p) ≡ unbroken d s.here s.count (cell_at old (s.start + p)) p
  pub outside : (i : ℕ) → (i < s.start) ⊎ (s.start + size ≤ i) → cell_at new i ≡ cell_at old i

-- The place has these bytes too.
pub record IsReplaced (d : Model) (old new : List Byte) (s : ByteRange) (size : ℕ) (bytes : ℕ → Byte) : Type 0 where
  pub same_length : length new ≡ length old
  pub inside : (p : ℕ) → s.here ≤ p → p < s.here + s.count → cell_at new (s.start + p) ≡ bytes (p - s.here)
  pub beside : (p : ℕ) → p < size → (p < s.here) ⊎ (s.here + s.count ≤ p)
      → cell_at new (s.start + p) ≡ unbroken d s.here s.count (cell_at old (s.start + p)) p
  pub outside : (i : ℕ) → (i < s.start) ⊎ (s.start + size ≤ i) → cell_at new i ≡ cell_at old i

-- among the places from one on and before another no cell points to the block, and all others are as they were
pub record IsForgotten (block from to : ℕ) (old new : List Byte) : Type 0 where
  pub same_length : length new ≡ length old
  pub inside : (i : ℕ) → from ≤ i → i < to → cell_at new i ≡ without block (cell_at old i)
  pub outside : (i : ℕ) → (i < from) ⊎ (to ≤ i) → cell_at new i ≡ cell_at old i

-- the cells from one place on and before another are undefined, and all others are as they were
pub record IsCleared (from to : ℕ) (old new : List Byte) : Type 0 where
  pub same_length : length new ≡ length old
  pub inside : (i : ℕ) → from ≤ i → i < to → cell_at new i ≡ Undefined
  pub outside : (i : ℕ) → (i < from) ⊎ (to ≤ i) → cell_at new i ≡ cell_at old i

-- ---- where pointers may be

-- A place lies on a page of 1024, and pages are marked by their number modulo 64.
abbrev pub IsIn : Span → ℕ → Type 0
IsIn s i = (s.from ≤ i) × (i < s.to) × (bit_at s.pages (i / 1024 % 64) ≡ 1)

abbrev pub nowhere : Span
nowhere = record { from = 0; to = 0; pages = 0 }

abbrev pub span_of : List Span → ℕ → Span
span_of spans b = slice_index_or spans b nowhere

-- ---- which pages were written

-- whether a byte of the place's page may be other than undefined; where nothing is noted of a page, it may
abbrev pub is_used : List Bool → ℕ → Bool
is_used used i = slice_index_or used (i / 1024) true

-- The cells hold parts of at most 8 bytes, each pointer to a block lies in the block's span, and what isn't undefined
-- lies on used pages.
pub record AreNoted (cells : List Byte) (spans : List Span) (used : List Bool) : Type 0 where
  pub parts : (i : ℕ) → part_of (cell_at cells i) < 8
  pub spanned : (b i : ℕ) → b < length spans → points_to b (cell_at cells i) ≡ true → IsIn (span_of spans b) i
  pub unused : (i : ℕ) → is_used used i ≡ false → cell_at cells i ≡ Undefined
