use Rattle.std.proofs.Common.{subst}
use Rattle.std.specs.Option.{option_map}
use Rattle.ep_core.specs.ProgramView.{program_view}
use Rattle.ep_core.specs.View.{dest_view, function_view}
use Rattle.ep_transfer_calls.specs.Typed.{TakesResult}
use Rattle.ep_transfer_calls.proofs.Typed.{call_receives}
use Rattle.ep_transfer_calls.proofs.receiving.result.Goals as goal

pub received-requires-clause-place : goal.received-requires-clause-place
received-requires-clause-place g c =
    (call_receives (program_view c.args.program.now) c.args.program.now.well_formed (function_view c.args.f.now)
    c.in-Some-result.home (dest_view c.in-Some.d) c.in-Some-result.is
    (subst (λ o. TakesResult (program_view c.args.program.now) (function_view c.args.f.now) (option_map dest_view o))
    c.in-Some.is c.requires.typed)).place

pub received-requires-clause-taken : goal.received-requires-clause-taken
received-requires-clause-taken g c =
    (call_receives (program_view c.args.program.now) c.args.program.now.well_formed (function_view c.args.f.now)
    c.in-Some-result.home (dest_view c.in-Some.d) c.in-Some-result.is
    (subst (λ o. TakesResult (program_view c.args.program.now) (function_view c.args.f.now) (option_map dest_view o))
    c.in-Some.is c.requires.typed)).taken
