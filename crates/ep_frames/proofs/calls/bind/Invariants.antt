use Rattle.std.proofs.Common.{◌≡◌, ℕ, drop, map}
use Rattle.ep_bytes.specs.View.{value_in}
use Rattle.ep_core.specs.Exec.{State, Outcome, bound}
use Rattle.ep_machine.specs.Settings.{program_in}
use Rattle.ep_machine.specs.Machines.{state_in, Runs}
use Rattle.ep_frames.specs.Arguments.{AreBound}
use Rattle.ep_frames.proofs.calls.bind.Given as goal

abbrev pub invariant-loop-i : goal.invariant-loop-i
invariant-loop-i l = record {
  runs : Runs l.on l.machine;
  fits : AreBound (program_in l.on) (drop l.i l.parameters) (drop l.i l.arguments);
  rest : (n : ℕ) (go : State → Outcome)
      → bound l.on.order (program_in l.on) l.parameters (map value_in l.arguments) n (state_in l.initial.machine) go
      ≡ bound l.on.order (program_in l.on) (drop l.i l.parameters) (map value_in (drop l.i l.arguments)) n
      (state_in l.machine) go;
}
