use Rattle.ep_cells.proofs.Gathered.{of_resharing}
use Rattle.ep_cells.proofs.laws.reshare_laws.Goals as goal

pub returns : goal.returns
returns g c = of_resharing g.N.Num.ops g.met.N.Num.laws
