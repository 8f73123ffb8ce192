use Rattle.ep_expression_trees.proofs.kept.arrow.Goals as goal

pub returns-in-None : goal.returns-in-None
returns-in-None c = λ t p. c.too_deep.ensures _ p.0 (c.in-None.ensures t p)
