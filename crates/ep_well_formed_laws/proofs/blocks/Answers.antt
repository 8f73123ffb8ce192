use Rattle.ep_well_formed_laws.proofs.Meanings.{blocks_fit, declarations_fit}
use Rattle.ep_well_formed_laws.proofs.blocks.Goals as goal

pub returns : goal.returns
returns c = record { declarations = declarations_fit; parts = blocks_fit }
