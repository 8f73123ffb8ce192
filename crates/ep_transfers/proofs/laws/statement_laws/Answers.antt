use Rattle.ep_transfers.proofs.Gathered.{each_statement}
use Rattle.ep_transfers.proofs.laws.statement_laws.Goals as goal

pub returns : goal.returns
returns g c p ord formed = each_statement g.N.Num.ops g.met.N.Num.laws p ord formed
