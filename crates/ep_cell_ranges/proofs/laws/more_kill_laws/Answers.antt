use Rattle.ep_cell_ranges.proofs.KillHeld.{of_more_kills}
use Rattle.ep_cell_ranges.proofs.laws.more_kill_laws.Goals as goal

pub returns : goal.returns
returns g c = of_more_kills g.N.Num.ops
