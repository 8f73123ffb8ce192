use Rattle.ep_single_assigned.proofs.Statements.{stores_are_exact}
use Rattle.ep_single_assigned.proofs.single_assigned.Goals as goal

pub returns : goal.returns
returns g c = stores_are_exact g.N.Num.ops g.met.N.Num.laws
