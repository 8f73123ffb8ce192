use Rattle.ep_cell_ranges.proofs.WeakHeld.{of_more_weak_writes}
use Rattle.ep_cell_ranges.proofs.laws.more_weak_write_laws.Goals as goal

pub returns : goal.returns
returns g c = of_more_weak_writes g.N.Num.ops
