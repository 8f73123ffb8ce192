use Rattle.ep_cell_ranges.proofs.Blurs.{of_blurs}
use Rattle.ep_cell_ranges.proofs.laws.blur_laws.Goals as goal

pub returns : goal.returns
returns g c = of_blurs g.N.Num.ops g.met.N.Num.laws
