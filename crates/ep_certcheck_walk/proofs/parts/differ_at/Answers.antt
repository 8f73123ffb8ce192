use Rattle.ep_certcheck_walk.proofs.Kept.{differ_none, differ_some}
use Rattle.ep_certcheck_walk.proofs.parts.differ_at.Goals as goal

pub returns-in-None : goal.returns-in-None
returns-in-None g c =
    λ k. (differ_none k c.args.line c.args.way.now c.in-None.is, tt)

pub returns-in-Some : goal.returns-in-Some
returns-in-Some g c =
    λ k. differ_some k c.args.line c.args.way.now _ c.in-Some.is
