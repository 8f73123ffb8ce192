use Rattle.ep_reads.proofs.Splits.{of_splits}
use Rattle.ep_reads.proofs.laws.split_laws.Goals as goal

pub returns : goal.returns
returns g c = of_splits g.N.Num.ops g.met.N.Num.laws
