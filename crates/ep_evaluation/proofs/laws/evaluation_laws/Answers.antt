use Rattle.ep_evaluation.proofs.Gathered.{evaluation_laws}
use Rattle.ep_evaluation.proofs.laws.evaluation_laws.Goals as goal

pub returns : goal.returns
returns g c = evaluation_laws g.N.Num.ops g.met.N.Num.laws
