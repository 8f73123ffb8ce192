use Rattle.std.proofs.Common.{◌≡◌, ◌<◌, length, get_or, map, slice_get, Some, None, false, nat_lt, sym, ap, ◌∙◌, subst}
use Rattle.std.specs.Option.{option_map}
use Rattle.ep_core.specs.Exec.{bodies, call_of, counted}
use Rattle.ep_core.specs.View.{dest_view, expr_view, function_view}
use Rattle.ep_machine.specs.Settings.{program_in}
use Rattle.ep_machine.specs.Machines.{state_in}
use Rattle.ep_frames.specs.Stack.{piled}
use Rattle.ep_frames.proofs.Entering.{call_is, call_fits, call_none, body_fits, function_at, function_missing}
use Rattle.ep_frames.proofs.calls.call.Goals as goal

pub enter-requires-clause-typed : goal.enter-requires-clause-typed
enter-requires-clause-typed c =
    let m = c.args.on.now in
    let fs = c.args.on.now.program.now.functions.items in
    let look : slice_get (program_in m).functions c.args.number ≡ Some (function_view c.in-Some.f.now)
    = function_at m fs c.args.number c.in-Some.f.now
    (subst (λ xs. c.args.number < length xs) c.deref.ensures.value c.in-Some.ensures.lookup.3.0)
    (subst (λ xs. c.in-Some.f.now ≡ get_or xs c.args.number c.in-Some.f.now) c.deref.ensures.value c.in-Some.ensures.lookup.1) in
    call_fits m c.args.here c.args.number c.in-Some.f.now c.if-here-number.false look
    (map expr_view c.args.arguments.now) (option_map dest_view c.args.dest.now) c.requires.typed

pub enter-requires-clause-body : goal.enter-requires-clause-body
enter-requires-clause-body c =
    let m = c.args.on.now in
    let fs = c.args.on.now.program.now.functions.items in
    let look : slice_get (program_in m).functions c.args.number ≡ Some (function_view c.in-Some.f.now)
    = function_at m fs c.args.number c.in-Some.f.now
    (subst (λ xs. c.args.number < length xs) c.deref.ensures.value c.in-Some.ensures.lookup.3.0)
    (subst (λ xs. c.in-Some.f.now ≡ get_or xs c.args.number c.in-Some.f.now) c.deref.ensures.value c.in-Some.ensures.lookup.1) in
    body_fits m c.args.on.now.program.now.well_formed c.args.number c.in-Some.f.now look

pub returns-in_ok-next-in-Some-clause-comes : goal.returns-in_ok-next-in-Some-clause-comes
returns-in_ok-next-in-Some-clause-comes c left =
    let m = c.args.on.now in
    let fs = c.args.on.now.program.now.functions.items in
    let look : slice_get (program_in m).functions c.args.number ≡ Some (function_view c.in-Some.f.now)
    = function_at m fs c.args.number c.in-Some.f.now
    (subst (λ xs. c.args.number < length xs) c.deref.ensures.value c.in-Some.ensures.lookup.3.0)
    (subst (λ xs. c.in-Some.f.now ≡ get_or xs c.args.number c.in-Some.f.now) c.deref.ensures.value c.in-Some.ensures.lookup.1) in
    c.in_ok-next-in-Some.ensures.comes left
    ∙ ap (piled m c.args.stack.now.items)
    (sym (call_is m c.args.here c.args.number c.in-Some.f.now c.if-here-number.false look
    (map expr_view c.args.arguments.now) (option_map dest_view c.args.dest.now) c.args.line left
    (state_in c.args.machine.now)))

pub returns-in-None-clause-comes : goal.returns-in-None-clause-comes
returns-in-None-clause-comes c left =
    let m = c.args.on.now in
    let fs = c.args.on.now.program.now.functions.items in
    let none : slice_get (program_in m).functions c.args.number ≡ None
    = function_missing fs c.args.number
    (subst (λ xs. false ≡ nat_lt c.args.number (length xs)) c.deref.ensures.value c.in-None.ensures.lookup.0) in
    ap (λ f. piled m c.args.stack.now.items (call_of m.order (program_in m) f
    (bodies m.order (program_in m) counted c.args.here c.args.number) (map expr_view c.args.arguments.now)
    (option_map dest_view c.args.dest.now) c.args.line left (state_in c.args.machine.now)))
    (sym (call_none m c.args.here c.args.number none))
