use Rattle.ep_transfers.proofs.Gathered.{each_result}
use Rattle.ep_transfers.proofs.laws.result_laws.Goals as goal

pub returns : goal.returns
returns g c p ord formed = each_result g.N.Num.ops g.met.N.Num.laws p ord formed
