use Rattle.std.proofs.Common.{sym, refl}
use Rattle.ep_flows.specs.View.{plan_of}
use Rattle.ep_pass.specs.Pass.{join_on}
use Rattle.ep_certcheck_walk.specs.Stops.{course, nothing_more}
use Rattle.ep_certcheck_walk.proofs.Kept.{err_gives}
use Rattle.ep_certcheck_walk.proofs.Ends.{main_end, no_end, no_main}
use Rattle.ep_walk_parts.proofs.TypedParts.{is_at, is_none}
use Rattle.ep_core.specs.View.{function_view}
use Rattle.ep_certcheck_walk.proofs.First.{looked}
use Rattle.ep_certcheck_walk.proofs.found.end_main.Goals as goal

pub returns-in_err-left : goal.returns-in_err-left
returns-in_err-left g c =
    λ hs. err_gives (course g.K.AbstractStates.ops g.K.CheckedStates.first_outside
    (plan_of c.args.c.now) hs) _ nothing_more c.from_residual.result _ c.from_residual.ensures.1 tt

pub returns-in-None : goal.returns-in-None
returns-in-None g c =
    let e = sym (rw c.in-None.is at c.function_at.ensures) in
    λ hs. (
      no_main (course g.K.AbstractStates.ops g.K.CheckedStates.first_outside (plan_of c.args.c.now) hs)
          (join_on (g.K.AbstractStates.ops (plan_of c.args.c.now).program
          (plan_of c.args.c.now).order) c.args.flow.ways.returned c.args.flow.on) c.in_ok-left.left c.in_ok-left.ensures
          (is_none c.args.c.now.program.now c.args.c.now.program.now.main e),
      tt,
    )

pub returns-in-None-left : goal.returns-in-None-left
returns-in-None-left g c =
    λ hs. (
      no_end (course g.K.AbstractStates.ops g.K.CheckedStates.first_outside (plan_of c.args.c.now) hs)
          (join_on (g.K.AbstractStates.ops (plan_of c.args.c.now).program
          (plan_of c.args.c.now).order) c.args.flow.ways.returned c.args.flow.on) c.in_ok-left.left
          c.in_ok-left.ensures _ refl c.in-None-left.is,
      tt,
    )

pub returns-in_err-ended-in-Some-left : goal.returns-in_err-ended-in-Some-left
returns-in_err-ended-in-Some-left g c =
    λ hs. err_gives (course g.K.AbstractStates.ops g.K.CheckedStates.first_outside
    (plan_of c.args.c.now) hs) _ nothing_more c.from_residual-in_err-ended-in-Some-left.result _
    c.from_residual-in_err-ended-in-Some-left.ensures.1 tt

pub returns : goal.returns
returns g c =
    let e = sym (rw c.in-Some.is at c.function_at.ensures) in
    λ hs. main_end (course g.K.AbstractStates.ops g.K.CheckedStates.first_outside (plan_of c.args.c.now) hs)
    (join_on (g.K.AbstractStates.ops (plan_of c.args.c.now).program (plan_of c.args.c.now).order)
    c.args.flow.ways.returned c.args.flow.on) c.in_ok-left.left c.in_ok-left.ensures
    (function_view c.in-Some.main.now) c.in-Some-left.known c.look.result
    (is_at c.args.c.now.program.now c.args.c.now.program.now.main c.in-Some.main.now e) c.in-Some-left.is
    (looked (course g.K.AbstractStates.ops g.K.CheckedStates.first_outside (plan_of c.args.c.now) hs)
    c.in-Some.main.now.line ((g.K.AbstractStates.ops (plan_of c.args.c.now).program (plan_of c.args.c.now).order).ended
    (function_view c.in-Some.main.now) c.in-Some-left.known) _ _ c.look.result c.new-alarms.ensures
    c.in_ok-ended-in-Some-left.ensures c.look.ensures)
