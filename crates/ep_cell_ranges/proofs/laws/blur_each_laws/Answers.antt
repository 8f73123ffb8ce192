use Rattle.ep_cell_ranges.proofs.Blurs.{of_blurs_each}
use Rattle.ep_cell_ranges.proofs.laws.blur_each_laws.Goals as goal

pub returns : goal.returns
returns g c = of_blurs_each g.N.Num.ops g.met.N.Num.laws
