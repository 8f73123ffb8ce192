use Rattle.ep_cell_ranges.proofs.WeakEach.{of_weak_each}
use Rattle.ep_cell_ranges.proofs.WeakHeld.{of_more_weak_writes}
use Rattle.ep_cells.proofs.Gathered.{of_weak_writes}
use Rattle.ep_cell_ranges.proofs.laws.weak_each_laws.Goals as goal

pub returns : goal.returns
returns g c =
    let ops = g.N.Num.ops in
    of_weak_each ops (of_weak_writes ops g.met.N.Num.laws) (of_more_weak_writes ops)
