use Rattle.ep_single_outputs.proofs.Statements.{outputs_are_exact}
use Rattle.ep_single_outputs.proofs.single_outputs.Goals as goal

pub returns : goal.returns
returns g c = outputs_are_exact g.N.Num.ops g.met.N.Num.laws
