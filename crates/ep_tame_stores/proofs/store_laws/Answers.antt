use Rattle.ep_tame_stores.proofs.Stores.{stores_keep_good}
use Rattle.ep_tame_stores.proofs.store_laws.Goals as goal

pub returns : goal.returns
returns g c keeps products p formed built tame ord =
    stores_keep_good g.N.Num.ops g.met.N.Num.laws keeps products p formed built tame ord
