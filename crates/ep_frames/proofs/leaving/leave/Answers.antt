use Rattle.std.proofs.Common.{ap, subst}
use Rattle.std.proofs.lemmas.Result.{IfOk-weaker}
use Rattle.ep_frames.specs.Stack.{piled, way_of, FrameFits}
use Rattle.ep_frames.proofs.leaving.leave.Goals as goal

pub returns-in-Turn-clause-pile : goal.returns-in-Turn-clause-pile
returns-in-Turn-clause-pile c =
    let fits = subst (FrameFits c.args.on.now) c.in-Turn.is c.requires.typed in
    IfOk-weaker c.leave_turn.result _ _ (λ n h. (h c.args.on.now fits).1) c.leave_turn.ensures.fits

pub returns-in-Call-clause-comes : goal.returns-in-Call-clause-comes
returns-in-Call-clause-comes c left =
    rw (c.in-Call.is) (ap (piled c.args.on.now c.args.stack.now.items) (c.leave_call.ensures.comes (way_of c.args.way) left))
