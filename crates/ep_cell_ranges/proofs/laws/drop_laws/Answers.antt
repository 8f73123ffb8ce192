use Rattle.ep_cell_ranges.proofs.KillHeld.{of_drops}
use Rattle.ep_cell_ranges.proofs.laws.drop_laws.Goals as goal

pub returns : goal.returns
returns g c = of_drops g.N.Num.ops
