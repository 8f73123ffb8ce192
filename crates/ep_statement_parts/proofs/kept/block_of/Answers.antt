use Rattle.ep_ast.specs.Statement.{to_parts}
use Rattle.ep_ast.specs.Depth.{height_of_parts}
use Rattle.ep_statement_parts.proofs.kept.block_of.Goals as goal

pub returns : goal.returns
returns c = λ ps k. (let n = c.over-height.ensures (height_of_parts (to_parts ps)) k.1 in
    (c.block_tree-tree.ensures ps n k.0, n))
