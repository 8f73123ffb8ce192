use Rattle.std.proofs.Common.{ap}
use Rattle.ep_ast.specs.Declaration.{Values, listed}
use Rattle.ep_ast.proofs.Rows.{values-vec}
use Rattle.ep_ast.proofs.declarations.ValueTree.new_list.Goals as goal

pub returns : goal.returns
returns c = ap (λ (vs : Values). listed c.args.line vs) (values-vec c.args.values)
