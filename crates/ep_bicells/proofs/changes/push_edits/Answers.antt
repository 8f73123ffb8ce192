use Rattle.std.proofs.Common.{arith}
use Rattle.ep_shared_parts.specs.Mentions.{number_of}
use Rattle.ep_shared_parts.proofs.Planning.{span_covers}
use Rattle.ep_bicells.proofs.changes.push_edits.Goals as goal

pub returns-clause-covers : goal.returns-clause-covers
returns-clause-covers g c = span_covers number_of c.args.range.0 c.args.range.1 c.args.parts.now c.loop-i.out.items c.span-first.result.0 c.span-first.result.1 c.span-first.ensures.below c.span-first.ensures.above (λ k f l. c.loop-i.invariant.done k f (omega arith))
