use Rattle.ep_mover_stores.proofs.Stores.{stores_keep, takes_keep}
use Rattle.ep_mover_stores.proofs.mover_stores.Goals as goal

pub returns-clause-stores : goal.returns-clause-stores
returns-clause-stores g c = stores_keep g.N.Num.ops g.met.N.Num.laws

pub returns-clause-takes : goal.returns-clause-takes
returns-clause-takes g c = takes_keep g.N.Num.ops g.met.N.Num.laws
