use Rattle.std.proofs.Common.{◌≡◌}
use Rattle.ep_machine.specs.Machines.{state_in, Runs}
use Rattle.ep_steps.specs.Ready.{IsReady}
use Rattle.ep_frames.specs.Stack.{piled, now_of, NowFits, PileFits}
use Rattle.ep_steps.proofs.steps.drive.Given as goal

abbrev pub invariant-steps : goal.invariant-steps
invariant-steps l = record {
  same : piled l.on l.fn.stack.items (now_of l.on l.first l.steps (state_in l.fn.machine))
      ≡ piled l.on l.stack.items (now_of l.on l.now l.left (state_in l.machine));
  runs : Runs l.on l.machine;
  fits : NowFits l.on l.now;
  pile : PileFits l.on l.stack.items;
  ready : IsReady l.stack.items l.now;
}

abbrev pub decreases-steps : goal.decreases-steps
decreases-steps l = l.left
