use Rattle.std.proofs.Common.{refl, ◌∙◌}
use Rattle.ep_expression_trees.proofs.kept.call.Goals as goal

pub returns-in_ok-a-in-Some : goal.returns-in_ok-a-in-Some
returns-in_ok-a-in-Some c = λ s ts p q. (let r = c.in-Some.ensures s ts p q in
    (p.0, (c.new_call.ensures ∙ rw (c.in_ok-a-in-Some.ensures.ok, p.0, r.0, r.1) refl, r.2, r.3, r.4)))

pub returns-in-None : goal.returns-in-None
returns-in-None c = λ s ts p q. c.too_deep.ensures _ p.0 (c.in-None.ensures s ts p q)
