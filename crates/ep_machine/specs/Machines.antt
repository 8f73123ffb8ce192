-- What a machine in memory stands for.
use Rattle.std.specs.Prelude.{◌≡◌, ℕ, ◌<◌, List, [], map, Option, Some, None, Result, Ok, Err, ⊤, Bool}
use Rattle.ep_int.specs.Memory.{Byte, undefined, number, fragment, Kind, Memory, Value}
use Rattle.ep_int.specs.declared.types.Model.{Model}
use Rattle.ep_int.specs.Types.{pointer_bytes}
use Rattle.ep_int.specs.declared.types.Scalar.{Scalar}
use Rattle.ep_bytes.specs.StoreView.{StoreView, memory_in}
use Rattle.ep_core.specs.Exec.{Output, State, Outcome, leaves, on, model, no_input, undefined_at, change, copy_at}
use Rattle.ep_core.specs.Exec.{put_at}
use Rattle.ep_core.specs.Typed.{MemoryFits}
use Rattle.ep_machine.specs.declared.fault.Fault.{Fault}
use Rattle.ep_machine.specs.declared.setting.Setting.{Setting}
use Rattle.ep_machine.specs.Faults.{kind_of}
use Rattle.ep_machine.specs.Settings.{IsLaid, program_in}
use Rattle.ep_machine.specs.declared.output.Output as code

-- its memory, the inputs left and how many were taken, the outputs, the tests and the joint tests
pub record MachineView : Type 0 where
  pub store : StoreView
  pub inputs : List ℕ
  pub used : ℕ
  pub outputs : List code.Output
  pub tests : List ℕ
  pub joint_tests : List ℕ

abbrev pub output_view : code.Output → Output
output_view x = record { t = x.t; value = x.value }

abbrev pub state_in : MachineView → State
state_in k = record {
  memory = memory_in k.store;
  inputs = k.inputs;
  used = k.used;
  outputs = map output_view k.outputs;
  tests = k.tests;
  joint_tests = k.joint_tests;
}

-- a machine with this memory, before main
abbrev pub begun : Memory → (inputs : List ℕ) → State
begun m inputs = record {
  memory = m;
  inputs = inputs;
  used = 0;
  outputs = [];
  tests = [];
  joint_tests = [];
}

-- Parts of pointers are counted up to the size of a pointer.
abbrev pub IsPart : Model → Byte → Type 0
IsPart d undefined = Unit {0}
IsPart d (number v) = Unit {0}
IsPart d (fragment b o k) = k < pointer_bytes d

abbrev pub ArePartsOf : Model → Memory → Type 0
ArePartsOf d m = (b q : ℕ) → IsPart d (m b q)

-- a machine that runs this program
pub record Runs (on : Setting) (k : MachineView) : Type 0 where
  pub laid : IsLaid on k.store
  pub fits : MemoryFits (program_in on) (memory_in k.store)
  pub parts : ArePartsOf (model on.order (program_in on)) (memory_in k.store)

-- what comes after something that was done, or was a fault
abbrev pub done : {A : Type 0} → Result A Fault → (line : ℕ) → State → Outcome → Outcome
done (Ok u) l s x = x
done (Err k) l s x = undefined_at l (kind_of k) s

-- what comes after an input
abbrev pub after_input : Option ℕ → State → (ℕ → State → Outcome) → Outcome
after_input None s go = no_input s
after_input (Some v) s go = go v s

-- what is wrong with what was done, if anything
abbrev pub fault_by : {A : Type 0} → Result A Fault → Option Kind
fault_by (Ok u) = None
fault_by (Err k) = Some (kind_of k)

-- ---- writes of a machine of this setting: from the one state to the other, with this answer

module _ (m : Setting) (old : State) (r : Result ⊤ Fault) (new : State) where
  -- a value is stored, and what comes next
  abbrev pub Puts : Scalar → (block here : ℕ) → Value → Type 0
  Puts what b q v =
      (l : ℕ) (go : State → Outcome)
      → put_at m.order (program_in m) what b q v l old go ≡ done r l new (go new)

  -- n bytes become those of another memory
  abbrev pub Changes : (block here n : ℕ) → Memory → Type 0
  Changes b q n x =
      (l left : ℕ) → change m.order (program_in m) b q n x l left old ≡ done r l new (leaves on left new)

  -- n bytes are copied; where it is the same place, nothing changes
  abbrev pub Copies : (to from : ℕ × ℕ) → (n : ℕ) → (same : Bool) → Type 0
  Copies to from n same =
      (l left : ℕ) → copy_at m.order (program_in m) to.0 to.1 from.0 from.1 n same l left old
      ≡ done r l new (leaves on left new)
