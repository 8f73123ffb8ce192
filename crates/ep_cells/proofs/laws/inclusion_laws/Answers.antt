use Rattle.ep_cells.proofs.Gathered.{of_inclusion}
use Rattle.ep_cells.proofs.laws.inclusion_laws.Goals as goal

pub returns : goal.returns
returns g c = of_inclusion g.N.Num.ops g.met.N.Num.laws
