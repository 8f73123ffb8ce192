use Rattle.ep_well_formed_laws.proofs.Meanings.{expressions_fit, mentions_keep}
use Rattle.ep_well_formed_laws.proofs.expressions.Goals as goal

pub returns : goal.returns
returns c = record { mentions = mentions_keep; operands = expressions_fit }
