use Rattle.std.proofs.Common.{map, arith}
use Rattle.ep_lexer.specs.Tokens.{view}
use Rattle.ep_type_names.proofs.StarLemmas.{stars_step, stars_done}
use Rattle.ep_type_names.proofs.words.stars.Goals as goal

pub returns-in_default-clause-reads : goal.returns-in_default-clause-reads
returns-in_default-clause-reads c = stars_done (map view c.args.tokens.now) c.stars.found.items
    (map view c.stars.rest.now) c.stars.invariant.0 c.in_default.ensures.value

pub stars-preserved : goal.stars-preserved
stars-preserved c = (
  rw c.in_ok-push.ensures.items (stars_step (map view c.args.tokens.now) c.stars.found.items (map view c.stars.rest.now)
      (map view c.in-Some.more.now) (map view c.consts-count.result.rest.now) c.in-Some.field-0-0
      c.consts-count.result.value
      c.stars.invariant.0 c.in-Some.ensures.value c.consts-count.ensures.counts),
  omega (arith, c.in-Some.ensures.shorter, c.consts-count.ensures.shorter),
)
