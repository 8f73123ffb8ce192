use Rattle.ep_cell_ranges.proofs.Waits.{of_writes}
use Rattle.ep_cell_ranges.proofs.laws.more_write_laws.Goals as goal

pub returns : goal.returns
returns g c = of_writes g.N.Num.ops
