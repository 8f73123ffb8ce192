use Rattle.std.proofs.Common.{◌≡◌, drop}
use Rattle.ep_core.specs.Exec.{first_of, without}
use Rattle.ep_machine.specs.Machines.{state_in, Runs}
use Rattle.ep_machine.proofs.machine.Machine.kill_parameters.Given as goal

abbrev pub invariant-loop-p : goal.invariant-loop-p
invariant-loop-p l = record {
  runs : Runs l.on l.self;
  rest : without (first_of (drop l.p-index l.parameters)) (state_in l.self)
      ≡ without (first_of l.parameters) (state_in l.fn.self);
}
