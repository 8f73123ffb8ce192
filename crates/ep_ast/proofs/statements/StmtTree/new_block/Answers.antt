use Rattle.std.proofs.Common.{ap}
use Rattle.ep_ast.specs.Statement.{Parts, block}
use Rattle.ep_ast.proofs.Rows.{parts-vec}
use Rattle.ep_ast.proofs.statements.StmtTree.new_block.Goals as goal

pub returns : goal.returns
returns c = ap (λ (ps : Parts). block c.args.line ps) (parts-vec c.args.items)
