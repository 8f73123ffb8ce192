use Rattle.std.proofs.Common.{refl}
use Rattle.ep_expression_trees.proofs.kept.conditional.Goals as goal

pub returns-in_ok-c-in-Some : goal.returns-in_ok-c-in-Some
returns-in_ok-c-in-Some c = λ s t u p q o. (let r = c.in-Some.ensures s t u p q o in (
  p.0,
  (
    rw (
      c.in_ok-a-in-Some.ensures.ok,
      c.in_ok-b-in-Some.ensures.ok,
      c.in_ok-c-in-Some.ensures.ok,
      p.0,
      r.0,
      r.1,
      r.2,
    ) refl,
    r.3,
    r.4,
    r.5,
  ),
))

pub returns-in-None : goal.returns-in-None
returns-in-None c = λ s t u p q o. c.too_deep.ensures _ p.0 (c.in-None.ensures s t u p q o)
