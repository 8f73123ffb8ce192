use Rattle.ep_well_formed_laws.proofs.ArmRows.{arms_may_differ}
use Rattle.ep_well_formed_laws.proofs.second_arms.Goals as goal

pub returns : goal.returns
returns c = arms_may_differ
