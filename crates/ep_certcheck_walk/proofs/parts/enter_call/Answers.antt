use Rattle.std.proofs.Common.{map, Ok, Err}
use Rattle.ep_core.specs.View.{expr_view, function_view}
use Rattle.ep_flows.specs.View.{mode_of, plan_of}
use Rattle.ep_certcheck_walk.specs.Stops.{course}
use Rattle.ep_certcheck_walk.proofs.First.{looked}
use Rattle.ep_certcheck_walk.proofs.Kept.{err_gives}
use Rattle.ep_certcheck_walk.proofs.parts.enter_call.Goals as goal

pub returns-in_err-next : goal.returns-in_err-next
returns-in_err-next g c =
    λ hs. err_gives (course g.K.AbstractStates.ops g.K.CheckedStates.first_outside
    (plan_of c.args.c.now) hs) _ _ c.from_residual.result _ c.from_residual.ensures.1 tt

pub returns-in_err-look : goal.returns-in_err-look
returns-in_err-look g c =
    λ hs. err_gives (course g.K.AbstractStates.ops g.K.CheckedStates.first_outside
    (plan_of c.args.c.now) hs) _ _ c.from_residual-in_err-look.result _ c.from_residual-in_err-look.ensures.1
    (looked (course g.K.AbstractStates.ops g.K.CheckedStates.first_outside (plan_of c.args.c.now) hs) c.args.line
    ((g.K.AbstractStates.ops (plan_of c.args.c.now).program (plan_of c.args.c.now).order).arguments
    (mode_of c.args.mode) (function_view c.args.f.now) (map expr_view c.args.es.now) c.args.known).faults _ _
    (Err _) c.new-alarms.ensures c.in_ok-next.ensures.faults c.in_err-look.ensures)

pub returns : goal.returns
returns g c =
    λ hs. (
      (looked (course g.K.AbstractStates.ops g.K.CheckedStates.first_outside
          (plan_of c.args.c.now) hs) c.args.line
          ((g.K.AbstractStates.ops (plan_of c.args.c.now).program (plan_of c.args.c.now).order).arguments
          (mode_of c.args.mode) (function_view c.args.f.now) (map expr_view c.args.es.now) c.args.known).faults _ _
          (Ok tt) c.new-alarms.ensures c.in_ok-next.ensures.faults c.in_ok-look.ensures).0,
      c.in_ok-next.ensures.next,
    )
