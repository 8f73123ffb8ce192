use Rattle.ep_mover_cells.proofs.Bytewise.{reads_know}
use Rattle.ep_mover_cells.proofs.mover_reads.Goals as goal

pub returns : goal.returns
returns g c = reads_know g.N.Num.ops
