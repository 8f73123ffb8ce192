use Rattle.ep_cell_ranges.proofs.Overwrites.{of_overwrites}
use Rattle.ep_cell_ranges.proofs.laws.overwrite_laws.Goals as goal

pub returns : goal.returns
returns g c = of_overwrites g.N.Num.ops
