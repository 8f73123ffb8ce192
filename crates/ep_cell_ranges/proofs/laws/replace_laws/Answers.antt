use Rattle.ep_cell_ranges.proofs.Overwrites.{of_overwrites}
use Rattle.ep_cell_ranges.proofs.Replaces.{of_replaces}
use Rattle.ep_cell_ranges.proofs.Waits.{of_splits as of_more_splits}
use Rattle.ep_reads.proofs.Splits.{of_splits}
use Rattle.ep_cell_ranges.proofs.laws.replace_laws.Goals as goal

pub returns : goal.returns
returns g c =
    let ops = g.N.Num.ops in
    let laws = g.met.N.Num.laws in
    of_replaces ops (of_splits ops laws) (of_more_splits ops laws) (of_overwrites ops)
