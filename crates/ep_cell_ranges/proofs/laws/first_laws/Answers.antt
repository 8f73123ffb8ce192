use Rattle.ep_cell_ranges.proofs.Firsts.{of_firsts}
use Rattle.ep_cell_ranges.proofs.laws.first_laws.Goals as goal

pub returns : goal.returns
returns g c = of_firsts g.N.Num.ops
