use Rattle.ep_frames.proofs.Piles.{pushed, pushed_heft, pushed_fits}
use Rattle.ep_frames.proofs.frames.push.Goals as goal

pub returns-in-Ok-clause-pile : goal.returns-in-Ok-clause-pile
returns-in-Ok-clause-pile c = pushed _ _ c.args.frame.now c.in-Ok.ensures.items

pub returns-in-Ok-clause-heft : goal.returns-in-Ok-clause-heft
returns-in-Ok-clause-heft c = pushed_heft _ _ c.args.frame.now c.in-Ok.ensures.items

pub returns-in-Ok-clause-fits : goal.returns-in-Ok-clause-fits
returns-in-Ok-clause-fits c = pushed_fits _ _ c.args.frame.now c.in-Ok.ensures.items
