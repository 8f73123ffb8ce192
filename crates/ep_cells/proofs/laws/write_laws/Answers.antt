use Rattle.ep_cells.proofs.Gathered.{of_writes}
use Rattle.ep_cells.proofs.laws.write_laws.Goals as goal

pub returns : goal.returns
returns g c = of_writes g.N.Num.ops
