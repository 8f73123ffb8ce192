-- How statements stop.
use Rattle.std.specs.Prelude.{◌≡◌, ℕ, List, Option, Some, None}
use Rattle.ep_core.specs.Exec.{State, result_in}
use Rattle.ep_core.specs.Runs as runs
use Rattle.ep_core.specs.Runs.{Run, run_of, main_function, main_ends, line_of, finished}
use Rattle.ep_machine.specs.declared.setting.Setting.{Setting}
use Rattle.ep_machine.specs.Faults.{kind_of}
use Rattle.ep_machine.specs.Settings.{program_in}
use Rattle.ep_frames.specs.declared.frames.Frame.{Frame}
use Rattle.ep_frames.specs.declared.frames.Now.{Now}
use Rattle.ep_steps.specs.declared.steps.Stop.{Stop}
use Rattle.ep_steps.specs.declared.steps.Stop.TheVariants as stop
use Rattle.ep_frames.specs.Stack.{piled, now_of}

-- two runs that differ in their joint tests alone
pub record IsAlike (x y : Run) : Type 0 where
  pub ending : x.ending ≡ y.ending
  pub outputs : x.outputs ≡ y.outputs
  pub tests : x.tests ≡ y.tests
  pub used : x.used ≡ y.used

-- the run that stops so, in this state
abbrev pub stopped : Setting → Stop → State → Run
stopped m stop.Running s = run_of runs.still_running s
stopped m stop.AtEnd s =
    main_ends m.order (program_in m) (result_in (main_function m.order (program_in m)))
    (line_of m.order (program_in m) (main_function m.order (program_in m))) s
stopped m stop.NoInput s = run_of runs.wants_input s
stopped m (stop.Faulty l k) s = run_of (runs.undefined_on l (kind_of k)) s

-- how a run is found where what is done now and then comes to its end with so many steps
abbrev pub found_with : Setting → List Frame → Now → (steps : ℕ) → State → Run
found_with m fs n left s = finished m.order (program_in m) (piled m fs (now_of m n left s))

-- Where nothing is left to do, how the run stops. Else a step is due: without one it is still running.
abbrev pub Stops : Setting → List Frame → Now → Option Stop → Type 0
Stops m fs n None = (s : State) → IsAlike (found_with m fs n 0 s) (stopped m stop.Running s)
Stops m fs n (Some x) = (left : ℕ) (s : State) → IsAlike (found_with m fs n left s) (stopped m x s)
