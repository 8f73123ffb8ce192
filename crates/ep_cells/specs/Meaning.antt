-- What cells and forms say of two memories (this project's rules, after Miné 2006 and Delmas, Ouadjaout and Miné
-- 2021).
-- The orders are those of the left and of the right memory, d is the data model, D the domain.
use Rattle.std.specs.Prelude.{◌≡◌, ℕ, ◌+◌, ◌%◌, ◌^◌, ◌<◌, ℤ, Bool, true, false, ◌⊎◌, List, Option, Some, None, IfSome}
use Rattle.ep_int.specs.declared.types.Order.{Order}
use Rattle.ep_int.specs.declared.types.Model.{Model}
use Rattle.ep_int.specs.declared.types.IntType.{IntType}
use Rattle.ep_int.specs.declared.types.Scalar.{Scalar}
use Rattle.ep_int.specs.declared.types.Scalar.TheVariants.{Int, Pointer}
use Rattle.ep_int.specs.Types.{bits_of, size_of, InRange, residue}
use Rattle.ep_int.specs.Encoding.{decoded}
use Rattle.ep_int.specs.Memory.{Memory, Value as Datum, int, null, pointer, undefined, is_number, number_in}
use Rattle.ep_int.specs.Memory.{bytes_of_value}
use Rattle.ep_bitslice.specs.declared.cell.Side.{Side}
use Rattle.ep_bitslice.specs.declared.cell.Side.TheVariants.{Left, Right, Shared}
use Rattle.ep_bitslice.specs.declared.cell.CellName.{CellName}
use Rattle.ep_bitslice.specs.declared.segment.Segment.{Segment}
use Rattle.ep_bitslice.specs.Bits.{Numbers}
use Rattle.ep_bitslice.specs.Segments.{number}
use Rattle.ep_domain.specs.Domain.{Ops, Holds}
use Rattle.ep_pointers.specs.Value.{HoldsPointer, null_pointer, into}
use Rattle.ep_cells.specs.declared.cell.Cell.{Cell}
use Rattle.ep_cells.specs.declared.cell.Value.{Value}
use Rattle.ep_cells.specs.declared.cell.Value.TheVariants.{Num, Ptr}
use Rattle.ep_cells.specs.Cells.{on_left, on_right, IsIn}
use Rattle.ep_cells.specs.States.{Known}

pub record Memories : Type 0 where
  pub left : Memory
  pub right : Memory

-- ---- what stands at a cell's place

-- a number of the cell's type, a pointer, or nothing, as its value and `maybe` allow
abbrev pub Allows : {N : Type 0} → Ops N → Scalar → Option (Value N) → (maybe : Bool) → Option Datum → Type 0
Allows D w None b v = v ≡ None
Allows D w (Some x) b None = b ≡ true
Allows D (Int t) (Some (Num n)) b (Some (int z)) = InRange t z × Holds D n z
Allows D Pointer (Some (Ptr p)) b (Some null) = HoldsPointer D p null_pointer
Allows D Pointer (Some (Ptr p)) b (Some (pointer c q)) = HoldsPointer D p (into c q)
Allows D w (Some x) b (Some v) = ⊥

-- all bytes of a place are undefined
abbrev pub IsUndefined : Memory → (block offset bytes : ℕ) → Type 0
IsUndefined m b q n = (p : ℕ) → p < n → m b (q + p) ≡ undefined

-- the bytes of a place are those of a value
abbrev pub Has : Order → Memory → Scalar → (block offset bytes : ℕ) → Datum → Type 0
Has o m w b q n v = (p : ℕ) → p < n → m b (q + p) ≡ bytes_of_value o w v p

-- each byte of a place is that of a value, or no number
abbrev pub HasNumbersOf : Order → Memory → Scalar → (block offset bytes : ℕ) → Datum → Type 0
HasNumbersOf o m w b q n v = (p : ℕ) → p < n
    → (m b (q + p) ≡ bytes_of_value o w v p) ⊎ (is_number (m b (q + p)) ≡ false)

-- the bytes of a cell's place in one memory, where this value stands there, or nothing
abbrev pub HasBytes : Order → Memory → (bytes : ℕ) → Scalar → (maybe : Bool) → (block offset : ℕ) → Option Datum
    → Type 0
HasBytes o m n w maybe b q None = IsUndefined m b q n
HasBytes o m n w false b q (Some v) = Has o m w b q n v
HasBytes o m n (Int t) true b q (Some v) = HasNumbersOf o m (Int t) b q n v
HasBytes o m n Pointer true b q (Some v) = Has o m Pointer b q n v ⊎ IsUndefined m b q n

-- the bytes of the memories that the cell speaks of are those of one and the same value, each in its own order
pub record StandsAt {N : Type 0} (os : Order × Order) (d : Model) (m : Memories) (c : Cell N) (v : Option Datum) :
    Type 0 where
  pub left : on_left c.side ≡ true → HasBytes os.0 m.left (size_of d c.what) c.what c.maybe c.block c.offset v
  pub right : on_right c.side ≡ true → HasBytes os.1 m.right (size_of d c.what) c.what c.maybe c.block c.offset v

-- what a cell says
pub record Says {N : Type 0} (D : Ops N) (os : Order × Order) (d : Model) (m : Memories) (c : Cell N) : Type 0 where
  pub datum : Option Datum
  pub allowed : Allows D c.what c.value c.maybe datum
  pub stands : StandsAt os d m c datum

-- ---- what forms say

-- the number at an integer cell's place, in its order
abbrev pub number_at : Order → Memory → CellName → ℤ
number_at o m n = decoded o n.t (λ p. number_in (m n.block (n.offset + p)))

abbrev pub number_on : Side → (Order × Order) → Memories → CellName → ℤ
number_on Left os m n = number_at os.0 m.left n
number_on Right os m n = number_at os.1 m.right n
number_on Shared os m n = number_at os.0 m.left n

-- the numbers of all cells
abbrev pub numbers_of : (Order × Order) → Memories → Numbers
numbers_of os m n = number_on n.side os m n

abbrev pub name_of : {N : Type 0} → Cell N → IntType → CellName
name_of c t = record { side = c.side; block = c.block; offset = c.offset; t = t }

-- the number of an integer cell equals that of a form modulo 2 to the power of its width
abbrev pub HasNumber : {N : Type 0} → (Order × Order) → Memories → Cell N → Scalar → ℕ → Type 0
HasNumber os m c (Int t) k = residue (2 ^ bits_of t) (numbers_of os m (name_of c t)) ≡ k % 2 ^ bits_of t
HasNumber os m c Pointer k = ⊥

abbrev pub FormSays : {N : Type 0} → (Order × Order) → Memories → Cell N → List Segment → Type 0
FormSays os m c ss = HasNumber os m c c.what (number (numbers_of os m) ss)

-- ---- states

-- what all cells and all forms say holds of the memories
pub record In {N : Type 0} (D : Ops N) (k : Known N) (m : Memories) : Type 0 where
  pub cells : (c : Cell N) → IsIn c k.cells → Says D k.orders k.model m c
  pub forms : (c : Cell N) → IsIn c k.cells → IfSome c.form (FormSays k.orders m c)
