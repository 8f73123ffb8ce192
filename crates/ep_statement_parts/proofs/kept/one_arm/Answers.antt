use Rattle.ep_statement_parts.proofs.kept.one_arm.Goals as goal

pub returns : goal.returns
returns c = λ ss k. (c.arm_tree-tree.ensures ss k.0, k.1)
