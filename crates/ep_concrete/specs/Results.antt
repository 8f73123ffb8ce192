-- What a run answers.
use Rattle.std.specs.Prelude.{◌≡◌, ℕ, map}
use Rattle.ep_bytes.specs.View.{alarm_of}
use Rattle.ep_core.specs.Exec.{State, Outcome, bodies, body_of, counted}
use Rattle.ep_core.specs.Runs as runs
use Rattle.ep_core.specs.Runs.{Run, main_function}
use Rattle.ep_machine.specs.declared.setting.Setting.{Setting}
use Rattle.ep_machine.specs.Settings.{program_in}
use Rattle.ep_machine.specs.Machines.{output_view, MachineView}
use Rattle.ep_concrete.specs.declared.types.Ending.{Ending}
use Rattle.ep_concrete.specs.declared.types.Ending.TheVariants.{Running, Ended, NoInput, Undefined}
use Rattle.ep_concrete.specs.declared.types.RunResult.{RunResult}

abbrev pub ending_of : runs.Ending → Ending
ending_of runs.still_running = Running
ending_of runs.ended = Ended
ending_of runs.wants_input = NoInput
ending_of (runs.undefined_on l k) = Undefined l (alarm_of k)

-- a run, as the definition has it; what is answered has no joint tests
pub record IsRun (r : RunResult) (x : Run) : Type 0 where
  pub ending : r.ending ≡ ending_of x.ending
  pub outputs : map output_view r.outputs.items ≡ x.outputs
  pub tests : r.tests.items ≡ x.tests
  pub used : r.used ≡ x.used

-- the ending, and what the machine has put out, tested and taken, are those of this run
pub record IsTold (e : Ending) (k : MachineView) (x : Run) : Type 0 where
  pub ending : e ≡ ending_of x.ending
  pub outputs : map output_view k.outputs ≡ x.outputs
  pub tests : k.tests ≡ x.tests
  pub used : k.used ≡ x.used

-- so many steps of main from a state on
abbrev pub main_steps : Setting → ℕ → State → Outcome
main_steps m n s =
    body_of m.order (program_in m) counted (main_function m.order (program_in m)) (program_in m).main
    (bodies m.order (program_in m) counted (program_in m).main) n s
