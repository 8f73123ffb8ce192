use Rattle.std.proofs.Common.{refl}
use Rattle.ep_expression_trees.proofs.kept.binary.Goals as goal

pub returns-in_ok-b-in-Some : goal.returns-in_ok-b-in-Some
returns-in_ok-b-in-Some c = λ s t p q. (let r = c.in-Some.ensures s t p q in
    (p.0, (rw (c.in_ok-a-in-Some.ensures.ok, c.in_ok-b-in-Some.ensures.ok, p.0, r.0, r.1) refl, r.2, r.3, r.4)))

pub returns-in-None : goal.returns-in-None
returns-in-None c = λ s t p q. c.too_deep.ensures _ p.0 (c.in-None.ensures s t p q)
