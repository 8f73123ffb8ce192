use Rattle.ep_transfers.proofs.Gathered.{each_pair}
use Rattle.ep_transfers.proofs.laws.pair_laws.Goals as goal

pub returns : goal.returns
returns g c p ord formed = each_pair g.N.Num.ops g.met.N.Num.laws p ord formed
