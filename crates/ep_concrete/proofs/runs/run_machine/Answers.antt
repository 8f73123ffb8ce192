use Rattle.std.proofs.Common.{◌≡◌, ◌<◌, length, get_or, false, nat_lt, slice_get, Some, None, sym, ap, ◌∙◌, subst}
use Rattle.ep_core.specs.View.{function_view}
use Rattle.ep_machine.specs.Settings.{program_in}
use Rattle.ep_frames.proofs.Entering.{function_at, function_missing}
use Rattle.ep_concrete.proofs.Ends.{ends_at_once}
use Rattle.ep_concrete.proofs.runs.run_machine.Goals as goal

pub run_main-requires-clause-main : goal.run_main-requires-clause-main
run_main-requires-clause-main c =
    let m = c.args.on.now in
    function_at m m.program.now.functions.items m.program.now.main c.in-Some.main.now
    (subst (λ xs. m.program.now.main < length xs) c.deref.ensures.value c.in-Some.ensures.lookup.3.0)
    (subst (λ xs. c.in-Some.main.now ≡ get_or xs m.program.now.main c.in-Some.main.now) c.deref.ensures.value
    c.in-Some.ensures.lookup.1)

pub returns-in-None : goal.returns-in-None
returns-in-None c =
    let m = c.args.on.now in
    ends_at_once m c.args.machine.now c.args.steps
    (function_missing m.program.now.functions.items m.program.now.main
    (subst (λ xs. false ≡ nat_lt m.program.now.main (length xs)) c.deref.ensures.value c.in-None.ensures.lookup.0))
