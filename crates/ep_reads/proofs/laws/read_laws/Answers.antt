use Rattle.ep_reads.proofs.Gathered.{of_reads}
use Rattle.ep_reads.proofs.laws.read_laws.Goals as goal

pub returns : goal.returns
returns g c = of_reads g.N.Num.ops g.met.N.Num.laws
