use Rattle.ep_cell_ranges.proofs.Narrowing.{of_narrow}
use Rattle.ep_cell_ranges.proofs.laws.narrow_laws.Goals as goal

pub returns : goal.returns
returns g c = of_narrow g.N.Num.ops
