use Rattle.std.proofs.Common.{refl}
use Rattle.ep_machine.specs.Machines.{state_in}
use Rattle.ep_machine.proofs.Kills.{first_killed_next, first_killed_end}
use Rattle.ep_machine.proofs.machine.Machine.kill_parameters.Goals as goal

pub loop-p-preserved : goal.loop-p-preserved
loop-p-preserved c = record {
  runs = c.kill_one.ensures.runs;
  rest = first_killed_next c.loop-p.p-index c.args.parameters.now _ _ (state_in c.loop-p.self)
      (state_in c.kill_one.new.self) _ c.loop-p-test.true refl c.kill_one.ensures.killed c.loop-p.invariant.rest;
}

pub returns-clause-killed : goal.returns-clause-killed
returns-clause-killed c =
    first_killed_end c.loop-p.p-index c.args.parameters.now (state_in c.loop-p.self) _ c.loop-p-test.false
    c.loop-p.invariant.rest
