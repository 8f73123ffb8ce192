use Rattle.ep_evaluation.proofs.Gathered.{test_laws}
use Rattle.ep_evaluation.proofs.laws.test_laws.Goals as goal

pub returns : goal.returns
returns g c = test_laws g.N.Num.ops g.met.N.Num.laws
