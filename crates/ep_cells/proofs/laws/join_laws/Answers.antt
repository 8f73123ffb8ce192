use Rattle.ep_cells.proofs.Gathered.{of_joins}
use Rattle.ep_cells.proofs.laws.join_laws.Goals as goal

pub returns : goal.returns
returns g c = of_joins g.N.Num.ops g.met.N.Num.laws
