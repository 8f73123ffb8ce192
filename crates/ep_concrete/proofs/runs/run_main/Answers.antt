use Rattle.std.proofs.Common.{sym, ap, ◌∙◌, subst}
use Rattle.ep_core.specs.Runs.{finished}
use Rattle.ep_machine.specs.Settings.{program_in}
use Rattle.ep_machine.specs.Machines.{state_in}
use Rattle.ep_steps.specs.Results.{stopped, IsAlike}
use Rattle.ep_frames.specs.Stack.{list_of, ListFits}
use Rattle.ep_frames.proofs.Entering.{body_fits}
use Rattle.ep_concrete.proofs.Ends.{main_is, told_so}
use Rattle.ep_concrete.proofs.runs.run_main.Goals as goal

pub execute-requires-clause-typed : goal.execute-requires-clause-typed
execute-requires-clause-typed c =
    let m = c.args.on.now in
    let here = m.program.now.main in
    subst (ListFits m here) (sym c.deref.ensures.value)
    (body_fits m m.program.now.well_formed here c.args.main.now c.requires.main)

pub returns : goal.returns
returns c =
    let m = c.args.on.now in
    let here = m.program.now.main in
    let s = state_in c.args.machine.now in
    let n = c.args.steps in
    told_so _ _ _ _
    (subst (λ x. IsAlike (finished m.order (program_in m) x)
    (stopped m c.in_ok-stop.stop (state_in c.execute.new.machine)))
    (ap (λ ss. list_of m here ss n s) c.deref.ensures.value ∙ main_is m c.args.main.now n s c.requires.main)
    c.in_ok-stop.ensures.stops)
    c.in_ok-ending.ensures
