use Rattle.std.proofs.Common.{◌≡◌, drop}
use Rattle.ep_core.specs.Exec.{without}
use Rattle.ep_machine.specs.Machines.{state_in, Runs}
use Rattle.ep_machine.proofs.machine.Machine.kill.Given as goal

abbrev pub invariant-loop-b : goal.invariant-loop-b
invariant-loop-b l = record {
  runs : Runs l.on l.self;
  rest : without (drop l.b-index l.blocks) (state_in l.self) ≡ without l.blocks (state_in l.fn.self);
}
