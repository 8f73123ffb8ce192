-- What the code finds, as what the definition finds.
use Rattle.std.specs.Prelude.{ℕ, ◌^◌, ℤ, pos, negsuc, ◌≤ℤ◌, Result, Ok, Err}
use Rattle.ep_int.specs.Memory.{Kind, overflow, division, shift, uninitialised, bounds, null_pointer, alignment}
use Rattle.ep_int.specs.Memory.{pointer_mix, overlap, pointer_part, Found, has, faults}
use Rattle.ep_alarms.specs.declared.types.AlarmKind.{AlarmKind}
use Rattle.ep_alarms.specs.declared.types.AlarmKind.TheVariants.{U1, U2, U3, U4, U5, U6, U7, U8, U9, U10, E1, E2, E3}
use Rattle.ep_alarms.specs.declared.types.AlarmKind.TheVariants.{E4}
use Rattle.ep_bytes.specs.declared.types.Datum.{Datum}
use Rattle.ep_bytes.specs.View.{value_in}
use Rattle.ep_machine.specs.declared.fault.Fault.{Fault}
use Rattle.ep_machine.specs.declared.fault.Fault.TheVariants as fault

abbrev pub kind_of : Fault → Kind
kind_of fault.Overflow = overflow
kind_of fault.Division = division
kind_of fault.Shift = shift
kind_of fault.Uninitialised = uninitialised
kind_of fault.Bounds = bounds
kind_of fault.NullPointer = null_pointer
kind_of fault.Alignment = alignment
kind_of fault.PointerMix = pointer_mix
kind_of fault.Overlap = overlap
kind_of fault.PointerPart = pointer_part

-- what an alarm names; the last four are of the analysis alone, and no machine has them
abbrev pub kind_named : AlarmKind → Kind
kind_named U1 = overflow
kind_named U2 = division
kind_named U3 = shift
kind_named U4 = uninitialised
kind_named U5 = bounds
kind_named U6 = null_pointer
kind_named U7 = alignment
kind_named U8 = pointer_mix
kind_named U9 = overlap
kind_named U10 = pointer_part
kind_named E1 = pointer_part
kind_named E2 = pointer_part
kind_named E3 = pointer_part
kind_named E4 = pointer_part

abbrev pub found_by : Result Datum Fault → Found
found_by (Ok v) = has (value_in v)
found_by (Err k) = faults (kind_of k)

-- what goes on with a number, and with a place
abbrev pub with_number_by : Result ℤ Fault → (ℤ → Found) → Found
with_number_by (Ok v) go = go v
with_number_by (Err k) go = faults (kind_of k)

abbrev pub with_place_by : Result (ℕ × ℕ) Fault → (ℕ → ℕ → Found) → Found
with_place_by (Ok x) go = go x.0 x.1
with_place_by (Err k) go = faults (kind_of k)

-- a distance in bytes that a number of some type can give
pub record IsWithinReach (by : ℤ) : Type 0 where
  pub low : negsuc (2 ^ 96) ≤ℤ by
  pub high : by ≤ℤ pos (2 ^ 96)
