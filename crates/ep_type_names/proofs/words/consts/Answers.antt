use Rattle.std.proofs.Common.{map, arith}
use Rattle.ep_lexer.specs.Tokens.{view}
use Rattle.ep_type_names.proofs.StarLemmas.{consts_step, consts_done}
use Rattle.ep_type_names.proofs.words.consts.Goals as goal

pub loop-more-preserved : goal.loop-more-preserved
loop-more-preserved c = (
  consts_step (map view c.args.tokens.now) c.loop-more.count (map view c.loop-more.rest.now)
      (map view c.in-Some.more.now) c.in-Some.field-0-0 c.loop-more.invariant.0 c.in-Some.ensures.value,
  omega (arith, c.in-Some.ensures.shorter),
)

pub returns-clause-counts : goal.returns-clause-counts
returns-clause-counts c = (
  consts_done (map view c.args.tokens.now) c.loop-more.count (map view c.loop-more.rest.now)
      c.loop-more.invariant.0,
  c.in_default.ensures.value,
)
