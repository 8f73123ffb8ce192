use Rattle.ep_well_formed_laws.proofs.Whole.{all_are_seen}
use Rattle.ep_well_formed_laws.proofs.functions.Goals as goal

pub returns : goal.returns
returns c = all_are_seen
