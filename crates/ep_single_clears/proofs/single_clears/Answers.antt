use Rattle.ep_single_clears.proofs.Statements.{clears_are_exact}
use Rattle.ep_single_clears.proofs.single_clears.Goals as goal

pub returns : goal.returns
returns g c = clears_are_exact g.N.Num.ops g.met.N.Num.laws
