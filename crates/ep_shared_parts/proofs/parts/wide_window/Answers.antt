use Rattle.ep_shared_parts.proofs.Spreading.{window_of}
use Rattle.ep_shared_parts.proofs.parts.wide_window.Goals as goal

pub returns : goal.returns
returns g c =
    window_of g.T.Numbered.number c.args.from c.args.last c.args.parts.now c.wide_span-first.result.0 c.wide_span-first.result.1 c.wide_span-first.ensures.order c.wide_span-first.ensures.below c.wide_span-first.ensures.above
