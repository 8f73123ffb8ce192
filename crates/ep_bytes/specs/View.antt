-- The bytes, values and answers of the code, as those of the definition.
use Rattle.std.specs.Prelude.{ℕ, ℤ, pos, negsuc, Bool, true, false, Option, Some, None, Result, Ok, Err, ⊤}
use Rattle.std.specs.Prelude.{if◌then◌else◌, unsigned_abs}
use Rattle.ep_int.specs.declared.types.Scalar.{Scalar}
use Rattle.ep_int.specs.declared.types.Scalar.TheVariants as scalar
use Rattle.ep_int.specs.Types.{InRange}
use Rattle.ep_int.specs.Memory.{Byte, undefined, number, fragment, Value, int, null, pointer, Kind, overflow}
use Rattle.ep_int.specs.Memory.{division, shift, uninitialised, bounds, null_pointer, alignment, pointer_mix, overlap}
use Rattle.ep_int.specs.Memory.{pointer_part, Found, has, faults}
use Rattle.ep_alarms.specs.declared.types.AlarmKind.{AlarmKind}
use Rattle.ep_alarms.specs.declared.types.AlarmKind.TheVariants.{U1, U2, U3, U4, U5, U6, U7, U8, U9, U10}
use Rattle.ep_bytes.specs.declared.types.Byte.{Byte as Cell}
use Rattle.ep_bytes.specs.declared.types.Byte.TheVariants as cell
use Rattle.ep_bytes.specs.declared.types.Datum.{Datum}
use Rattle.ep_bytes.specs.declared.types.Datum.TheVariants as datum

abbrev pub byte_in : Cell → Byte
byte_in cell.Undefined = undefined
byte_in (cell.Number v) = number v
byte_in (cell.Fragment b o k) = fragment b o k

abbrev pub value_in : Datum → Value
value_in (datum.Int v) = int v
value_in datum.Null = null
value_in (datum.Pointer b o) = pointer b o

-- a value of a scalar type
abbrev pub Fits : Scalar → Datum → Type 0
Fits (scalar.Int t) (datum.Int v) = InRange t v
Fits (scalar.Int t) datum.Null = ⊥
Fits (scalar.Int t) (datum.Pointer b o) = ⊥
Fits scalar.Pointer (datum.Int v) = ⊥
Fits scalar.Pointer datum.Null = Unit {0}
Fits scalar.Pointer (datum.Pointer b o) = Unit {0}

-- the alarm that names a kind of undefined behaviour
abbrev pub alarm_of : Kind → AlarmKind
alarm_of overflow = U1
alarm_of division = U2
alarm_of shift = U3
alarm_of uninitialised = U4
alarm_of bounds = U5
alarm_of null_pointer = U6
alarm_of alignment = U7
alarm_of pointer_mix = U8
alarm_of overlap = U9
alarm_of pointer_part = U10

abbrev pub datum_of : Value → Datum
datum_of (int v) = datum.Int v
datum_of null = datum.Null
datum_of (pointer b o) = datum.Pointer b o

-- the answer of a read
abbrev pub read_as : Found → Result Datum AlarmKind
read_as (has v) = Ok (datum_of v)
read_as (faults k) = Err (alarm_of k)

-- an offset below zero is outside of each block
abbrev pub is_below_zero : ℤ → Bool
is_below_zero (pos n) = false
is_below_zero (negsuc n) = true

-- the answer of a write, by what is wrong with it
abbrev pub written_as : Option Kind → Result ⊤ AlarmKind
written_as None = Ok tt
written_as (Some k) = Err (alarm_of k)

-- what is found at an offset, and what is wrong with a place there
abbrev pub found_at : ℤ → (ℕ → Found) → Found
found_at offset go = if is_below_zero offset then faults bounds else go (unsigned_abs offset)

abbrev pub fault_at : ℤ → (ℕ → Option Kind) → Option Kind
fault_at offset go = if is_below_zero offset then Some bounds else go (unsigned_abs offset)
