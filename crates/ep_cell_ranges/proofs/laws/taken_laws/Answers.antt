use Rattle.ep_cell_ranges.proofs.Takes.{of_takes}
use Rattle.ep_cell_ranges.proofs.laws.taken_laws.Goals as goal

pub returns : goal.returns
returns g c = of_takes g.N.Num.ops g.met.N.Num.laws
