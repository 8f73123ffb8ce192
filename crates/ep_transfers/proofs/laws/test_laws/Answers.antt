use Rattle.ep_transfers.proofs.Gathered.{each_test}
use Rattle.ep_transfers.proofs.laws.test_laws.Goals as goal

pub returns : goal.returns
returns g c p ord formed = each_test g.N.Num.ops g.met.N.Num.laws p ord formed
