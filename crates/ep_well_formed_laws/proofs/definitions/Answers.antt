use Rattle.ep_well_formed_laws.proofs.Meanings.{definitions_fit}
use Rattle.ep_well_formed_laws.proofs.definitions.Goals as goal

pub returns : goal.returns
returns c = definitions_fit
