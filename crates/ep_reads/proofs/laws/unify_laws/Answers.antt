use Rattle.ep_reads.proofs.Unified.{of_unification}
use Rattle.ep_reads.proofs.laws.unify_laws.Goals as goal

pub returns : goal.returns
returns g c = of_unification g.N.Num.ops g.met.N.Num.laws
