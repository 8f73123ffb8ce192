use Rattle.ep_single_fills.proofs.Statements.{fills_are_exact}
use Rattle.ep_single_fills.proofs.single_fills.Goals as goal

pub returns : goal.returns
returns g c = fills_are_exact g.N.Num.ops g.met.N.Num.laws
