use Rattle.ep_cell_ranges.proofs.Moved.{of_moves}
use Rattle.ep_cell_ranges.proofs.laws.move_laws.Goals as goal

pub returns : goal.returns
returns g c = of_moves g.N.Num.ops
