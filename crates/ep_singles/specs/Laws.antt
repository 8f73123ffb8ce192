-- Reads where a state stands for one pair of memories alone.
use Rattle.std.specs.Prelude.{◌≡◌, ℕ, false, Some}
use Rattle.std.specs.List.{list_any}
use Rattle.ep_int.specs.declared.types.Scalar.{Scalar}
use Rattle.ep_int.specs.Types.{size_of}
use Rattle.ep_int.specs.Memory.{Value as Datum, has, bytes_from, is_undefined, value_of_bytes}
use Rattle.ep_bitslice.specs.declared.cell.Side.{Side}
use Rattle.ep_bitslice.specs.declared.cell.Side.TheVariants.{Left, Right, Shared}
use Rattle.ep_domain.specs.Domain.{Ops}
use Rattle.ep_cells.specs.States.{Known}
use Rattle.ep_cells.specs.Meaning.{Memories, Allows}
use Rattle.ep_reads.specs.declared.read.ReadValue.{ReadValue}
use Rattle.ep_reads.specs.Bytes.{order_on}
use Rattle.ep_reads.specs.Read.{read}
use Rattle.ep_reads.specs.Laws.{memory_on}
use Rattle.ep_singles.specs.Cells.{IsOneValue, IsOne}

-- the side of one machine
abbrev pub IsMachine : Side → Type 0
IsMachine Left = Unit {0}
IsMachine Right = Unit {0}
IsMachine Shared = ⊥

-- A machine finds this value at a place: no byte of it is undefined, and it is the value that they have.
pub record Finds {N : Type 0} (k : Known N) (m : Memories) (s : Side) (b q : ℕ) (w : Scalar) (v : Datum) : Type 0 where
  pub defined : list_any is_undefined (bytes_from (memory_on s m) b q (size_of k.model w)) ≡ false
  pub value : value_of_bytes (order_on s k.orders) w (bytes_from (memory_on s m) b q (size_of k.model w)) ≡ has v

-- It is read without a doubt, as one number or pointer, which it is.
pub record IsReadAs {N : Type 0} (D : Ops N) (w : Scalar) (r : ReadValue N) (v : Datum) : Type 0 where
  pub sure : r.maybe ≡ false
  pub unmixed : r.mixed ≡ false
  pub one : IsOneValue D r.value
  pub allowed : Allows D w r.value false (Some v)

abbrev pub ReadsAreOne : {N : Type 0} → Ops N → Type 0
ReadsAreOne {N = N} D =
    (k : Known N) (m : Memories) → IsOne D k m → (s : Side) → IsMachine s → (b q : ℕ) (w : Scalar) (v : Datum)
    → Finds k m s b q w v → IsReadAs D w (read D k s b q w) v
