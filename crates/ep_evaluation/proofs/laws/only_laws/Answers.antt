use Rattle.ep_evaluation.proofs.Gathered.{only_laws}
use Rattle.ep_evaluation.proofs.laws.only_laws.Goals as goal

pub returns : goal.returns
returns g c = only_laws g.N.Num.ops g.met.N.Num.laws
