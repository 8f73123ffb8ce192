use Rattle.std.proofs.Common.{◌≡◌, map, sym, ap, ◌∙◌, subst}
use Rattle.std.specs.Option.{option_map}
use Rattle.ep_bytes.specs.StoreView.{memory_in}
use Rattle.ep_bytes.specs.View.{value_in}
use Rattle.ep_core.specs.Exec.{called, frame_of, have, undefined_at, values, without}
use Rattle.ep_core.specs.View.{dest_view, expr_view, function_view}
use Rattle.ep_machine.specs.Faults.{kind_of}
use Rattle.ep_machine.specs.Settings.{program_in}
use Rattle.ep_machine.specs.Machines.{state_in}
use Rattle.ep_frames.specs.Arguments.{values_by}
use Rattle.ep_frames.specs.Stack.{list_of, piled}
use Rattle.ep_frames.proofs.Entering.{enter_done, frame_gone, bound_as, arguments_typed, arguments_bound}
use Rattle.ep_frames.proofs.calls.enter.Goals as goal

pub values-requires-clause-typed : goal.values-requires-clause-typed
values-requires-clause-typed c =
    arguments_typed c.args.on.now (memory_in c.forget_result.new.machine.store) c.args.f.now.params.items
    c.args.arguments.now (c.requires.typed _ c.forget_result.ensures.runs.fits).0

pub bind-requires-clause-fits : goal.bind-requires-clause-fits
bind-requires-clause-fits c =
    let m = c.args.on.now in
    let x = memory_in c.forget_result.new.machine.store in
    let vals : values m.order (program_in m) (map expr_view c.args.arguments.now) x ≡ have (map value_in c.in-Ok.all.items)
    = sym (subst (λ r. values_by r ≡ values m.order (program_in m) (map expr_view c.args.arguments.now) x) c.in-Ok.is c.in_ok-k.ensures) in
    rw (c.deref-in-Ok-2.ensures.value, c.deref-in-Ok-3.ensures.value)
    (arguments_bound m x c.args.f.now.params.items (map expr_view c.args.arguments.now) c.in-Ok.all.items
    (c.requires.typed _ c.forget_result.ensures.runs.fits).0 vals)

pub returns-in-Err-bind-clause-comes : goal.returns-in-Err-bind-clause-comes
returns-in-Err-bind-clause-comes c left =
    let m = c.args.on.now in
    let x = memory_in c.forget_result.new.machine.store in
    let f = function_view c.args.f.now in
    let r = state_in c.forget_result.new.machine in
    let q = state_in c.kill.new.self in
    let vals : values m.order (program_in m) (map expr_view c.args.arguments.now) x ≡ have (map value_in c.in-Ok.all.items)
    = sym (subst (λ r. values_by r ≡ values m.order (program_in m) (map expr_view c.args.arguments.now) x) c.in-Ok.is c.in_ok-k.ensures) in
    let gone : q ≡ without (frame_of f) r
    = frame_gone m c.args.f.now.params.items c.deref.result.now c.args.f.now.locals.items c.deref-in-Ok.result.now r
    (state_in c.kill_parameters.new.self) q c.deref.ensures.value c.deref-in-Ok.ensures.value
    c.kill_parameters.ensures.killed c.kill.ensures.killed in
    ap (piled m c.args.stack.now.items)
    (sym (enter_done m f (list_of m c.args.number c.args.f.now.body.items) (map expr_view c.args.arguments.now)
    (option_map dest_view c.args.dest.now) c.args.line left (state_in c.args.machine.now) r q
    (map value_in c.in-Ok.all.items)
    (λ go. undefined_at c.args.line (kind_of c.in-Err-bind.k) (state_in c.bind.new.machine))
    c.forget_result.ensures.forgets vals gone
    (λ go. bound_as m c.args.f.now.params.items c.deref-in-Ok-2.result.now c.in-Ok.all.items c.deref-in-Ok-3.result.now
    c.args.line q go c.deref-in-Ok-2.ensures.value c.deref-in-Ok-3.ensures.value ∙ c.in-Err-bind.ensures.binds c.args.line go)))

pub returns-clause-comes : goal.returns-clause-comes
returns-clause-comes c left =
    let m = c.args.on.now in
    let x = memory_in c.forget_result.new.machine.store in
    let f = function_view c.args.f.now in
    let d = option_map dest_view c.args.dest.now in
    let r = state_in c.forget_result.new.machine in
    let q = state_in c.kill.new.self in
    let s = state_in c.bind.new.machine in
    let vals : values m.order (program_in m) (map expr_view c.args.arguments.now) x ≡ have (map value_in c.in-Ok.all.items)
    = sym (subst (λ r. values_by r ≡ values m.order (program_in m) (map expr_view c.args.arguments.now) x) c.in-Ok.is c.in_ok-k.ensures) in
    let gone : q ≡ without (frame_of f) r
    = frame_gone m c.args.f.now.params.items c.deref.result.now c.args.f.now.locals.items c.deref-in-Ok.result.now r
    (state_in c.kill_parameters.new.self) q c.deref.ensures.value c.deref-in-Ok.ensures.value
    c.kill_parameters.ensures.killed c.kill.ensures.killed in
    c.in_ok-push-in-Ok-bind.ensures.pile m (list_of m c.args.number c.deref-in-Ok-bind.result.now left s)
    ∙ ap (λ ss. piled m c.args.stack.now.items (called m.order (program_in m) f d c.args.line (list_of m c.args.number ss left s))) c.deref-in-Ok-bind.ensures.value
    ∙ ap (piled m c.args.stack.now.items)
    (sym (enter_done m f (list_of m c.args.number c.args.f.now.body.items) (map expr_view c.args.arguments.now) d
    c.args.line left (state_in c.args.machine.now) r q (map value_in c.in-Ok.all.items) (λ go. go s)
    c.forget_result.ensures.forgets vals gone
    (λ go. bound_as m c.args.f.now.params.items c.deref-in-Ok-2.result.now c.in-Ok.all.items c.deref-in-Ok-3.result.now
    c.args.line q go c.deref-in-Ok-2.ensures.value c.deref-in-Ok-3.ensures.value ∙ c.in-Ok-bind.ensures.binds c.args.line go)))

pub returns-clause-pile : goal.returns-clause-pile
returns-clause-pile c g = c.in_ok-push-in-Ok-bind.ensures.fits c.args.on.now g (λ x f. (c.requires.typed x f).1)
