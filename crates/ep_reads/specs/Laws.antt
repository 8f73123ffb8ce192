-- The laws of reads: what is read without a doubt is what stands there, and it may be the value and the form of a cell.
use Rattle.std.specs.Prelude.{◌≡◌, ℕ, ◌%◌, ◌^◌, Bool, true, false, List, Some, IfSome}
use Rattle.std.specs.List.{list_any}
use Rattle.ep_int.specs.declared.types.Scalar.{Scalar}
use Rattle.ep_int.specs.declared.types.Scalar.TheVariants.{Int, Pointer}
use Rattle.ep_int.specs.Types.{bits_of, size_of, residue}
use Rattle.ep_int.specs.Memory.{Memory, Value as Datum, int, null, pointer, has, bytes_from, is_undefined}
use Rattle.ep_int.specs.Memory.{value_of_bytes}
use Rattle.ep_bitslice.specs.declared.cell.Side.{Side}
use Rattle.ep_bitslice.specs.declared.cell.Side.TheVariants.{Left, Right, Shared}
use Rattle.ep_bitslice.specs.declared.cell.CellName.{CellName}
use Rattle.ep_bitslice.specs.declared.segment.Segment.{Segment}
use Rattle.ep_bitslice.specs.Bits.{mentions}
use Rattle.ep_bitslice.specs.Segments.{bits, width, number, IsForm}
use Rattle.ep_domain.specs.Domain.{Ops}
use Rattle.ep_cells.specs.declared.cell.Cell.{Cell}
use Rattle.ep_cells.specs.States.{Known, IsOfSort, HasRisingBlocks, IsThere, HasWidth, AreCells}
use Rattle.ep_cells.specs.Meaning.{Memories, Allows, numbers_of, In}
use Rattle.ep_reads.specs.declared.read.ReadValue.{ReadValue}
use Rattle.ep_reads.specs.Bytes.{order_on}
use Rattle.ep_reads.specs.Read.{read}

-- the memory of a side, the left one of Shared
abbrev pub memory_on : Side → Memories → Memory
memory_on Left m = m.left
memory_on Right m = m.right
memory_on Shared m = m.left

-- ---- that a read holds

-- an integer equals a number modulo 2 to the power of its width
abbrev pub IsNumberOf : Scalar → Datum → ℕ → Type 0
IsNumberOf (Int t) (int z) k = residue (2 ^ bits_of t) z ≡ k % 2 ^ bits_of t
IsNumberOf (Int t) null k = ⊥
IsNumberOf (Int t) (pointer c o) k = ⊥
IsNumberOf Pointer v k = ⊥

-- No byte of the place is undefined, and their value on that side is one that was read, with the number of the form.
pub record FindsValue {N : Type 0} (D : Ops N) (k : Known N) (s : Side) (b q : ℕ) (w : Scalar) (r : ReadValue N) (m :
    Memories) : Type 0 where
  pub datum : Datum
  pub defined : list_any is_undefined (bytes_from (memory_on s m) b q (size_of k.model w)) ≡ false
  pub found : value_of_bytes (order_on s k.orders) w (bytes_from (memory_on s m) b q (size_of k.model w)) ≡ has datum
  pub allowed : Allows D w r.value false (Some datum)
  pub form : IfSome r.form (λ ss. IsNumberOf w datum (number (numbers_of k.orders m) ss))

-- where it can be neither undefined nor mixed
abbrev pub ReadHolds : {N : Type 0} → Ops N → Known N → Side → (block offset : ℕ) → Scalar → ReadValue N → Type 0
ReadHolds D k s b q w r =
    (m : Memories) → In D k m → r.maybe ≡ false → r.mixed ≡ false → FindsValue D k s b q w r m

-- ---- that it may be written

-- ss may be the form of a cell of this type
pub record IsFormRead {N : Type 0} (cs : List (Cell N)) (w : Scalar) (maybe : Bool) (ss : List Segment) : Type 0 where
  pub sure : maybe ≡ false
  pub wide : HasWidth w (width ss)
  pub form : IsForm ss
  pub mentioned : (n : CellName) → mentions n (bits ss) ≡ true → IsThere n cs

pub record FitsRead {N : Type 0} (cs : List (Cell N)) (w : Scalar) (r : ReadValue N) : Type 0 where
  pub sort : IsOfSort w r.value
  pub rising : HasRisingBlocks r.value
  pub form : IfSome r.form (IsFormRead cs w r.maybe)

-- ---- the laws, of a read on a side at an offset of a block

pub record ReadLaws {N : Type 0} (D : Ops N) : Type 0 where
  pub fits : (k : Known N) (s : Side) (b q : ℕ) (w : Scalar) → AreCells k.model k.cells
      → FitsRead k.cells w (read D k s b q w)
  pub holds : (k : Known N) (s : Side) (b q : ℕ) (w : Scalar) → AreCells k.model k.cells
      → ReadHolds D k s b q w (read D k s b q w)
