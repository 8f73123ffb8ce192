use Rattle.ep_transfers.proofs.Entering.{each_entry}
use Rattle.ep_transfers.proofs.laws.entry_laws.Goals as goal

pub returns : goal.returns
returns g c p ord formed = each_entry g.N.Num.ops g.met.N.Num.laws p ord formed
