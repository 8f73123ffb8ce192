use Rattle.ep_statement_parts.proofs.kept.states.Goals as goal

pub returns : goal.returns
returns c = λ s k. (c.item_of-tree.ensures s k.0, k.1)
