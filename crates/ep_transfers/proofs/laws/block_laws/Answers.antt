use Rattle.ep_transfers.proofs.Gathered.{each_block}
use Rattle.ep_transfers.proofs.laws.block_laws.Goals as goal

pub returns : goal.returns
returns g c p ord formed = each_block g.N.Num.ops g.met.N.Num.laws p ord formed
