-- The values of arguments, and how they go to parameters.
use Rattle.std.specs.Prelude.{ℕ, List, [], ◌∷◌, map, Result, Ok, Err}
use Rattle.std.specs.declared.alloc.Global.{Global}
use Rattle.std.specs.declared.vec.Vec.{Vec}
use Rattle.ep_int.specs.declared.types.Scalar.{Scalar}
use Rattle.ep_bytes.specs.declared.types.Datum.{Datum}
use Rattle.ep_bytes.specs.View.{value_in}
use Rattle.ep_core.specs.Program.{Program}
use Rattle.ep_core.specs.Exec.{Values, have, stops}
use Rattle.ep_core.specs.Typed.{ValueFits}
use Rattle.ep_machine.specs.declared.fault.Fault.{Fault}
use Rattle.ep_machine.specs.Faults.{kind_of}

-- the values of arguments
abbrev pub values_by : Result (Vec Datum Global) Fault → Values
values_by (Ok v) = have (map value_in v.items)
values_by (Err k) = stops (kind_of k)

-- for each parameter that has an argument, one that is of it
abbrev pub AreBound : Program → List (ℕ × Scalar) → List Datum → Type 0
AreBound p [] vs = Unit {0}
AreBound p (b ∷ bs) [] = Unit {0}
AreBound p (b ∷ bs) (v ∷ vs) = ValueFits p b.1 (value_in v) × AreBound p bs vs
