use Rattle.std.proofs.Common.{sym, subst}
use Rattle.ep_flows.specs.View.{plan_of}
use Rattle.ep_certcheck_laws.specs.Checked.{outside_of}
use Rattle.ep_certcheck_walk.specs.Stops.{Gives, course, nothing_more}
use Rattle.ep_certcheck_walk.proofs.given.stay_reached.Goals as goal

pub returns-in-Some : goal.returns-in-Some
returns-in-Some g c =
    λ line hs at. subst (λ z. Gives
    (course g.K.AbstractStates.ops g.K.CheckedStates.first_outside (plan_of c.args.c.now) hs)
    (outside_of (g.K.AbstractStates.ops (plan_of c.args.c.now).program
    (plan_of c.args.c.now).order) g.K.CheckedStates.first_outside c.args.number line c.args.head.now z) nothing_more
    c.stay_within.result) (sym c.in-Some.is) (c.stay_within.ensures line hs at)
