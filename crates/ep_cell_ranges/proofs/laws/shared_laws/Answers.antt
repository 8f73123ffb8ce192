use Rattle.ep_cell_ranges.proofs.Shareds.{of_shared}
use Rattle.ep_cell_ranges.proofs.laws.shared_laws.Goals as goal

pub returns : goal.returns
returns g c = of_shared g.N.Num.ops g.met.N.Num.laws
