use Rattle.ep_singles.proofs.Settled.{reads_are_one}
use Rattle.ep_singles.proofs.single_reads.Goals as goal

pub returns : goal.returns
returns g c k m one s i b q w v f = reads_are_one g.N.Num.ops g.met.N.Num.laws k m one s i b q w v f
