use Rattle.std.proofs.Common.{◌+◌}
use Rattle.ep_machine.specs.Machines.{state_in, Runs}
use Rattle.ep_frames.specs.Heft.{heft_all, heft_now}
use Rattle.ep_frames.specs.Stack.{piled, now_of, ComesTo, NowFits, PileFits}
use Rattle.ep_steps.proofs.steps.settle.Given as goal

abbrev pub invariant-moves : goal.invariant-moves
invariant-moves l = record {
  comes : ComesTo l.on l.stack.items l.now (state_in l.machine)
      (λ left. piled l.on l.initial.stack.items (now_of l.on l.first left (state_in l.initial.machine)));
  runs : Runs l.on l.machine;
  fits : NowFits l.on l.now;
  pile : PileFits l.on l.stack.items;
}

abbrev pub decreases-moves : goal.decreases-moves
decreases-moves l = heft_now l.now + heft_all l.stack.items
