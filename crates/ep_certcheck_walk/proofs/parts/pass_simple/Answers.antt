use Rattle.std.proofs.Common.{sym, ◌∙◌, true, false, Ok, Err}
use Rattle.ep_core.specs.View.{what_view}
use Rattle.ep_flows.specs.View.{mode_of, plan_of, simple_of}
use Rattle.ep_certcheck_walk.specs.Stops.{course}
use Rattle.ep_certcheck_walk.proofs.First.{looked}
use Rattle.ep_certcheck_walk.proofs.Kept.{simple_found, simple_stops}
use Rattle.ep_certcheck_walk.proofs.Turning.{err_finds}
use Rattle.ep_certcheck_walk.proofs.parts.pass_simple.Goals as goal

pub returns-in_err-next : goal.returns-in_err-next
returns-in_err-next g c =
    λ hs n. err_finds (course g.K.AbstractStates.ops g.K.CheckedStates.first_outside
    (plan_of c.args.c.now) hs) _ c.from_residual.result _ n n c.from_residual.ensures.1 tt

pub returns-in_err-look : goal.returns-in_err-look
returns-in_err-look g c =
    λ hs n. err_finds (course g.K.AbstractStates.ops g.K.CheckedStates.first_outside
    (plan_of c.args.c.now) hs) _ c.from_residual-in_err-look.result _ n n c.from_residual-in_err-look.ensures.1
    (simple_stops (course g.K.AbstractStates.ops g.K.CheckedStates.first_outside
    (plan_of c.args.c.now) hs) c.args.here n
    (mode_of c.args.mode) c.args.s.now.line c.args.known c.result_of.result c.result_of.ensures
    (what_view c.args.s.now.what) c.requires.simple _
    (looked (course g.K.AbstractStates.ops g.K.CheckedStates.first_outside
    (plan_of c.args.c.now) hs) c.args.s.now.line
    ((g.K.AbstractStates.ops (plan_of c.args.c.now).program (plan_of c.args.c.now).order).simple
    (mode_of c.args.mode) c.result_of.result (simple_of (what_view c.args.s.now.what)) c.args.known).faults _ _
    (Err _) c.new-alarms.ensures c.in_ok-next.ensures.faults c.in_err-look.ensures))

pub returns-then-returns : goal.returns-then-returns
returns-then-returns g c =
    λ hs n. simple_found (course g.K.AbstractStates.ops g.K.CheckedStates.first_outside
    (plan_of c.args.c.now) hs) c.args.here n
    (mode_of c.args.mode) c.args.s.now.line c.args.known c.result_of.result c.result_of.ensures
    (what_view c.args.s.now.what) c.requires.simple true
    (sym c.if-returns.true ∙ c.returns.ensures) c.returned.result
    (looked (course g.K.AbstractStates.ops g.K.CheckedStates.first_outside
    (plan_of c.args.c.now) hs) c.args.s.now.line
    ((g.K.AbstractStates.ops (plan_of c.args.c.now).program (plan_of c.args.c.now).order).simple
    (mode_of c.args.mode) c.result_of.result (simple_of (what_view c.args.s.now.what)) c.args.known).faults _ _
    (Ok tt) c.new-alarms.ensures c.in_ok-next.ensures.faults c.in_ok-look.ensures).0 c.in_ok-next.next
    c.in_ok-next.ensures.next c.returned.ensures.on c.returned.ensures.ways

pub returns : goal.returns
returns g c =
    λ hs n. simple_found (course g.K.AbstractStates.ops g.K.CheckedStates.first_outside
    (plan_of c.args.c.now) hs) c.args.here n
    (mode_of c.args.mode) c.args.s.now.line c.args.known c.result_of.result c.result_of.ensures
    (what_view c.args.s.now.what) c.requires.simple false (sym c.if-returns.false ∙ c.returns.ensures) c.on.result
    (looked (course g.K.AbstractStates.ops g.K.CheckedStates.first_outside
    (plan_of c.args.c.now) hs) c.args.s.now.line
    ((g.K.AbstractStates.ops (plan_of c.args.c.now).program (plan_of c.args.c.now).order).simple
    (mode_of c.args.mode) c.result_of.result (simple_of (what_view c.args.s.now.what)) c.args.known).faults _ _
    (Ok tt) c.new-alarms.ensures c.in_ok-next.ensures.faults c.in_ok-look.ensures).0 c.in_ok-next.next
    c.in_ok-next.ensures.next c.on.ensures.on c.on.ensures.ways
