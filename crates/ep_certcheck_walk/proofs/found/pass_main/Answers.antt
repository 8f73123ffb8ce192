use Rattle.ep_flows.specs.View.{plan_of}
use Rattle.ep_certcheck_walk.specs.Stops.{course}
use Rattle.ep_certcheck_walk.proofs.Ends.{err_all, main_goes, main_stops}
use Rattle.ep_certcheck_walk.proofs.found.pass_main.Goals as goal

pub returns-in_err-known : goal.returns-in_err-known
returns-in_err-known g c =
    err_all (course g.K.AbstractStates.ops g.K.CheckedStates.first_outside
    (plan_of c.args.c.now) c.args.heads.now) c.from_residual.result _ _ c.from_residual.ensures.1 tt

pub returns-in_err-flow : goal.returns-in_err-flow
returns-in_err-flow g c =
    err_all (course g.K.AbstractStates.ops g.K.CheckedStates.first_outside
    (plan_of c.args.c.now) c.args.heads.now) c.from_residual-in_err-flow.result _ _
    c.from_residual-in_err-flow.ensures.1 (main_stops (course g.K.AbstractStates.ops g.K.CheckedStates.first_outside
    (plan_of c.args.c.now) c.args.heads.now) c.in_ok-known.known c.in_ok-known.ensures c.args.taken.now c.requires _
    c.in_err-flow.ensures)

pub returns : goal.returns
returns g c =
    main_goes (course g.K.AbstractStates.ops g.K.CheckedStates.first_outside
    (plan_of c.args.c.now) c.args.heads.now) c.in_ok-known.known c.in_ok-known.ensures c.args.taken.now c.requires
    c.in_ok-flow.flow _ c.in_ok-flow.ensures c.end_main.result (c.end_main.ensures c.args.heads.now)
