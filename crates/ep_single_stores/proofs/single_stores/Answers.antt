use Rattle.ep_single_stores.proofs.Stores.{stores_keep_one}
use Rattle.ep_single_stores.proofs.single_stores.Goals as goal

pub returns : goal.returns
returns g c k m n one s q w v f x = stores_keep_one g.N.Num.ops g.met.N.Num.laws k m n one s q w v f x
