use Rattle.ep_transfers.proofs.Called.{each_call}
use Rattle.ep_transfers.proofs.laws.arguments_laws.Goals as goal

pub returns : goal.returns
returns g c p ord formed = each_call g.N.Num.ops g.met.N.Num.laws p ord formed
