use Rattle.std.proofs.Common.{◌<◌, arith}
use Rattle.ep_machine.specs.Machines.{state_in}
use Rattle.ep_simple_steps.proofs.Waiting.{run_is_zeroed}
use Rattle.ep_simple_steps.proofs.clearing.zero_run.Goals as goal

pub returns-clause-zeros : goal.returns-clause-zeros
returns-clause-zeros c =
    let more = c.if-run.false in
    let less : c.args.run.from < c.args.run.to = omega (arith, more) in
    run_is_zeroed c.args.on.now c.args.block c.args.here c.args.run.from c.args.run.to c.args.machine.now.store.model
    (state_in c.args.machine.now) (state_in c.fill-filled.new.self) c.fill-filled.result c.requires.runs.laid.model less
    c.requires.inside c.fill-filled.ensures.fills
