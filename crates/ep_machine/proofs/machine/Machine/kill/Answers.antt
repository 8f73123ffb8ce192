use Rattle.std.proofs.Common.{refl}
use Rattle.ep_machine.specs.Machines.{state_in}
use Rattle.ep_machine.proofs.Kills.{killed_next, killed_end}
use Rattle.ep_machine.proofs.machine.Machine.kill.Goals as goal

pub loop-b-preserved : goal.loop-b-preserved
loop-b-preserved c = record {
  runs = c.kill_one.ensures.runs;
  rest = killed_next c.loop-b.b-index c.args.blocks.now _ 0 (state_in c.loop-b.self) (state_in c.kill_one.new.self) _
      c.loop-b-test.true refl c.kill_one.ensures.killed c.loop-b.invariant.rest;
}

pub returns-clause-killed : goal.returns-clause-killed
returns-clause-killed c =
    killed_end c.loop-b.b-index c.args.blocks.now (state_in c.loop-b.self) _ c.loop-b-test.false
    c.loop-b.invariant.rest
