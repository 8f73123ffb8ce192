use Rattle.std.proofs.Common.{◌≡◌, ◌≤◌, take}
use Rattle.ep_int.specs.Memory.{Memory, replaced, undefined}
use Rattle.ep_bytes.specs.StoreView.{memory_in}
use Rattle.ep_core.specs.Exec.{model, remembers}
use Rattle.ep_machine.specs.Settings.{program_in}
use Rattle.ep_machine.specs.Machines.{state_in, ArePartsOf, Runs}
use Rattle.ep_simple_steps.specs.Zeros.{zeros_in}
use Rattle.ep_simple_steps.proofs.Waiting.{upto, Waits}
use Rattle.ep_simple_steps.proofs.clearing.zero_leaves.Given as goal

abbrev pub invariant-loop-leaf : goal.invariant-loop-leaf
invariant-loop-leaf l = record {
  runs : Runs l.on l.machine;
  ordered : l.from ≤ l.to;
  inside : l.to ≤ l.n;
  waits : Waits l.on l.leaves l.leaf-index l.from l.to l.n;
  zeros : (x : Memory) → ArePartsOf (model l.on.order (program_in l.on)) x
      → memory_in l.initial.machine.store
      ≡ replaced (model l.on.order (program_in l.on)) x l.block l.here l.n (λ k. undefined)
      → state_in l.machine
      ≡ remembers (replaced (model l.on.order (program_in l.on)) x l.block l.here l.n
      (upto (zeros_in l.on (take l.leaf-index l.leaves)) l.from)) (state_in l.initial.machine);
}
