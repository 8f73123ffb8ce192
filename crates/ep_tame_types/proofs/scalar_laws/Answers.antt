use Rattle.ep_tame_types.proofs.Once.{scalars_once}
use Rattle.ep_tame_types.proofs.scalar_laws.Goals as goal

pub returns : goal.returns
returns c t built tame whole o a b v w one two is there = scalars_once t built tame whole o a b v w one two is there
