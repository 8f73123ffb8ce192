use Rattle.std.proofs.Common.{◌∙◌}
use Rattle.ep_operands.specs.View as operands
use Rattle.ep_declared.proofs.NameLemmas.{seen_some}
use Rattle.ep_declared.proofs.naming.is_built_in.Goals as goal

pub returns : goal.returns
returns c = c.is_some.ensures ∙ seen_some operands.operand c.built_in.result _ c.built_in.ensures
