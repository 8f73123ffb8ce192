use Rattle.ep_well_formed_laws.proofs.Meanings.{whole_statements_fit}
use Rattle.ep_well_formed_laws.proofs.whole_statements.Goals as goal

pub returns : goal.returns
returns c = whole_statements_fit
