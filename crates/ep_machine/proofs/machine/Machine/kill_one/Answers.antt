use Rattle.std.proofs.Common.{ap, arith}
use Rattle.std.proofs.Math.ListN.{length-map}
use Rattle.ep_core.specs.View.{block_view}
use Rattle.ep_core.specs.Exec.{remembers}
use Rattle.ep_machine.specs.Settings.{program_in}
use Rattle.ep_machine.specs.Machines.{state_in}
use Rattle.ep_machine.proofs.Kills.{killed_nothing}
use Rattle.ep_machine.proofs.Writes.{kill_runs}
use Rattle.ep_machine.proofs.machine.Machine.kill_one.Goals as goal

pub returns-then-block-len-clause-runs : goal.returns-then-block-len-clause-runs
returns-then-block-len-clause-runs c =
    kill_runs c.args.on.now c.self.view_is c.args.block c.kill.new.self c.requires c.kill.ensures.like
    c.kill.ensures.killed

pub returns-else-block-len-clause-killed : goal.returns-else-block-len-clause-killed
returns-else-block-len-clause-killed c =
    let n = length-map c.args.on.now.program.now.blocks.items block_view in
    let len = c.len.ensures in
    let past = c.if-block-len.false in
    ap (λ m. remembers m (state_in c.args.self.now))
    (killed_nothing (program_in c.args.on.now) c.args.self.now.store c.args.block c.requires.laid.count
    (omega (arith, n, len, past))
    c.requires.fits)
