use Rattle.ep_transfers.proofs.WaitingStays.{each_waits}
use Rattle.ep_transfers.proofs.laws.waiting_laws.Goals as goal

pub returns : goal.returns
returns g c p ord formed = each_waits g.N.Num.ops g.met.N.Num.laws p ord formed
