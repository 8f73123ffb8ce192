use Rattle.ep_cell_ranges.proofs.Waits.{of_splits}
use Rattle.ep_cell_ranges.proofs.laws.more_split_laws.Goals as goal

pub returns : goal.returns
returns g c = of_splits g.N.Num.ops g.met.N.Num.laws
