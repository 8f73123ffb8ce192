use Rattle.ep_cells.proofs.Gathered.{of_kills}
use Rattle.ep_cells.proofs.laws.kill_laws.Goals as goal

pub returns : goal.returns
returns g c = of_kills g.N.Num.ops g.met.N.Num.laws
