use Rattle.ep_transfers.proofs.GatheredRuns.{each_run}
use Rattle.ep_transfers.proofs.laws.run_laws.Goals as goal

pub returns : goal.returns
returns g c p ord formed = each_run g.N.Num.ops g.met.N.Num.laws p ord formed
