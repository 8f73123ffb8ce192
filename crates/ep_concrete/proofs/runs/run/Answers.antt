use Rattle.std.proofs.Common.{sym, ap, ◌∙◌, subst}
use Rattle.ep_bytes.specs.StoreView.{memory_in}
use Rattle.ep_machine.specs.declared.setting.Setting.{Setting}
use Rattle.ep_machine.specs.Settings.{IsLaid}
use Rattle.ep_machine.specs.Machines.{state_in}
use Rattle.ep_concrete.proofs.Starts.{first_runs, run_from}
use Rattle.ep_concrete.proofs.Ends.{is_run}
use Rattle.ep_concrete.proofs.runs.run.Goals as goal

pub run_machine-requires : goal.run_machine-requires
run_machine-requires c =
    let m : Setting = record { order = c.args.order; program = c.args.p } in
    first_runs m c.args.p.now.well_formed c.in_ok-machine.machine
    (subst (IsLaid m) (sym c.in_ok-machine.ensures.store) c.in_ok-memory.ensures.laid)
    (ap memory_in c.in_ok-machine.ensures.store ∙ c.in_ok-memory.ensures.memory)

pub returns : goal.returns
returns c =
    let m : Setting = record { order = c.args.order; program = c.args.p } in
    is_run _ c.run_machine.new.machine _ _ c.in_ok-ending.ensures
    (run_from m (memory_in c.in_ok-memory.memory) c.args.inputs.now c.args.steps (state_in c.in_ok-machine.machine)
    c.in_ok-machine.ensures.state c.in_ok-memory.ensures.memory) c.told-outputs.ensures.outputs c.told-outputs.ensures.tests
    c.told-outputs.ensures.used
