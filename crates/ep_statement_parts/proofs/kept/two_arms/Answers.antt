use Rattle.std.proofs.Common.{arith}
use Rattle.ep_ast.specs.Statement.{to_stmts}
use Rattle.ep_ast.specs.Depth.{height_of_stmts}
use Rattle.ep_statement_parts.proofs.DepthLemmas.{counts_max}
use Rattle.ep_statement_parts.proofs.kept.two_arms.Goals as goal

pub returns : goal.returns
returns c = λ ss ts k j. (
  c.arms_tree-tree.ensures ss ts k.0 j.0,
  counts_max c.args.then.height c.args.otherwise.height
      c.max-height.result (height_of_stmts (to_stmts ss)) (height_of_stmts (to_stmts ts)) (omega arith) k.1 j.1,
)
