use Rattle.ep_transfers.proofs.Copying.{each_copy}
use Rattle.ep_transfers.proofs.laws.copy_laws.Goals as goal

pub returns : goal.returns
returns g c p ord formed = each_copy g.N.Num.ops g.met.N.Num.laws p ord formed
