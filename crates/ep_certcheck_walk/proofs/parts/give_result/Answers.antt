use Rattle.std.proofs.Common.{Ok, Err}
use Rattle.std.specs.Option.{option_map}
use Rattle.ep_core.specs.View.{dest_view, function_view}
use Rattle.ep_flows.specs.View.{mode_of, plan_of}
use Rattle.ep_certcheck_walk.specs.Stops.{checking, course}
use Rattle.ep_certcheck_walk.proofs.First.{looked}
use Rattle.ep_certcheck_walk.proofs.Kept.{result_found, result_stops}
use Rattle.ep_certcheck_walk.proofs.Turning.{err_finds}
use Rattle.ep_certcheck_walk.proofs.parts.give_result.Goals as goal

pub returns-in_err-next-in-Some : goal.returns-in_err-next-in-Some
returns-in_err-next-in-Some g c =
    λ hs n. err_finds (course g.K.AbstractStates.ops g.K.CheckedStates.first_outside
    (plan_of c.args.c.now) hs) _ c.from_residual.result _ n n c.from_residual.ensures.1 tt

pub returns-in_err-look-in-Some : goal.returns-in_err-look-in-Some
returns-in_err-look-in-Some g c =
    λ hs n. err_finds (course g.K.AbstractStates.ops g.K.CheckedStates.first_outside
    (plan_of c.args.c.now) hs) _ c.from_residual-in_err-look-in-Some.result _ n n
    c.from_residual-in_err-look-in-Some.ensures.1 (result_stops (course g.K.AbstractStates.ops
    g.K.CheckedStates.first_outside (plan_of c.args.c.now) hs) c.args.line n (λ s. (checking (course
    g.K.AbstractStates.ops g.K.CheckedStates.first_outside (plan_of c.args.c.now) hs)).result (mode_of c.args.mode)
    (function_view c.args.f.now) (option_map dest_view c.args.d.now) s) c.args.left c.in-Some.left c.in-Some.is _
    (looked (course g.K.AbstractStates.ops g.K.CheckedStates.first_outside (plan_of c.args.c.now) hs) c.args.line
    ((g.K.AbstractStates.ops (plan_of c.args.c.now).program (plan_of c.args.c.now).order).result (mode_of c.args.mode)
    (function_view c.args.f.now) (option_map dest_view c.args.d.now) c.in-Some.left).faults _ _ (Err _)
    c.new-alarms.ensures c.in_ok-next-in-Some.ensures.faults c.in_err-look-in-Some.ensures))

pub returns-in_ok-look-in-Some : goal.returns-in_ok-look-in-Some
returns-in_ok-look-in-Some g c =
    λ hs n. result_found (course g.K.AbstractStates.ops g.K.CheckedStates.first_outside
    (plan_of c.args.c.now) hs) c.args.line n
    (λ s. (checking (course g.K.AbstractStates.ops g.K.CheckedStates.first_outside
    (plan_of c.args.c.now) hs)).result (mode_of c.args.mode) (function_view c.args.f.now)
    (option_map dest_view c.args.d.now) s) c.args.left c.in-Some.left c.in-Some.is c.on.result
    c.in_ok-next-in-Some.next (looked (course g.K.AbstractStates.ops g.K.CheckedStates.first_outside (plan_of
    c.args.c.now) hs) c.args.line ((g.K.AbstractStates.ops (plan_of c.args.c.now).program
    (plan_of c.args.c.now).order).result (mode_of c.args.mode) (function_view c.args.f.now)
    (option_map dest_view c.args.d.now) c.in-Some.left).faults _ _ (Ok tt) c.new-alarms.ensures
    c.in_ok-next-in-Some.ensures.faults c.in_ok-look-in-Some.ensures).0 c.in_ok-next-in-Some.ensures.next
    c.on.ensures.on c.on.ensures.ways
