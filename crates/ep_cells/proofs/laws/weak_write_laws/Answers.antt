use Rattle.ep_cells.proofs.Gathered.{of_weak_writes}
use Rattle.ep_cells.proofs.laws.weak_write_laws.Goals as goal

pub returns : goal.returns
returns g c = of_weak_writes g.N.Num.ops g.met.N.Num.laws
