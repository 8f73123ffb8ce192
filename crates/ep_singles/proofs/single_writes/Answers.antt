use Rattle.ep_singles.proofs.Replaces.{replaces_keep_one}
use Rattle.ep_singles.proofs.Splits.{splits_keep_one}
use Rattle.ep_singles.proofs.single_writes.Goals as goal

pub returns-clause-splits : goal.returns-clause-splits
returns-clause-splits g c = splits_keep_one g.N.Num.ops g.met.N.Num.laws

pub returns-clause-replaces : goal.returns-clause-replaces
returns-clause-replaces g c = replaces_keep_one g.N.Num.ops g.met.N.Num.laws
