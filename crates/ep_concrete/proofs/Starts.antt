-- A machine before main.
use Rattle.std.proofs.Common.{◌≡◌, ℕ, true, false, Bool, List, [], ◌∷◌, fold, if◌then◌else◌, ◌||◌, slice_get, sym, ap}
use Rattle.std.proofs.Common.{◌∙◌, subst}
use Rattle.ep_int.specs.declared.types.Scalar.TheVariants.{Int}
use Rattle.ep_int.specs.Memory.{Byte, undefined, number, Memory, int, stored}
use Rattle.ep_bytes.specs.StoreView.{memory_in}
use Rattle.ep_core.specs.Program.{Init}
use Rattle.ep_core.specs.Exec.{State, model, result_in}
use Rattle.ep_core.specs.Runs.{blank, finished, initial, is_global, is_result, main_function, run}
use Rattle.ep_core.specs.Typed.{MemoryFits}
use Rattle.ep_core.specs.WellFormed.{is_well_formed}
use Rattle.ep_core.proofs.Bytes.{initial_bytes}
use Rattle.ep_core.proofs.Operands.{first_values_fit}
use Rattle.ep_machine.specs.declared.setting.Setting.{Setting}
use Rattle.ep_machine.specs.Settings.{program_in, IsLaid}
use Rattle.ep_machine.specs.Machines.{begun, ArePartsOf, IsPart, MachineView, Runs}
use Rattle.ep_machine.proofs.Parts.{stored_parts}
use Rattle.ep_concrete.specs.Results.{main_steps}

module _ (m : Setting) where
  abbrev put_first : Memory → Init → Memory
  put_first x i = stored m.order (model m.order (program_in m)) x (Int i.t) i.block i.offset (int i.value)

  firsts_parts : (is : List Init) (x : Memory) → ArePartsOf (model m.order (program_in m)) x
      → ArePartsOf (model m.order (program_in m)) (fold put_first x is)
  firsts_parts [] x h = h
  firsts_parts (i ∷ is) x h =
      firsts_parts is (put_first x i)
      (stored_parts m.order (model m.order (program_in m)) x (Int i.t) i.block i.offset (int i.value) h)

  blank_part : (t : Bool) → IsPart (model m.order (program_in m)) (if t then number 0 else undefined)
  blank_part true = tt
  blank_part false = tt

  initial_parts : ArePartsOf (model m.order (program_in m)) (initial m.order (program_in m))
  initial_parts =
      firsts_parts (program_in m).init
      (blank (program_in m).blocks (result_in (main_function m.order (program_in m))))
      (λ b q. blank_part (is_global (slice_get (program_in m).blocks b)
      || is_result (result_in (main_function m.order (program_in m))) b))

  -- a machine with the memory before main runs the program
  pub first_runs : is_well_formed (program_in m) ≡ true → (k : MachineView) → IsLaid m k.store
      → memory_in k.store ≡ initial m.order (program_in m) → Runs m k
  first_runs w k laid e = record {
    laid = laid;
    fits = subst (MemoryFits (program_in m)) (sym e)
        (initial_bytes (program_in m) m.order (first_values_fit (program_in m) w));
    parts = subst (ArePartsOf (model m.order (program_in m))) (sym e) initial_parts;
  }

  -- from there main makes a run
  pub run_from : (x : Memory) (inputs : List ℕ) (n : ℕ) (s : State) → s ≡ begun x inputs
      → x ≡ initial m.order (program_in m)
      → finished m.order (program_in m) (main_steps m n s) ≡ run (program_in m) m.order inputs n
  run_from x inputs n s es ex =
      ap (λ s. finished m.order (program_in m) (main_steps m n s)) es
      ∙ ap (λ x. finished m.order (program_in m) (main_steps m n (begun x inputs))) ex
