use Rattle.ep_single_outputs.proofs.Statements.{inputs_are_exact}
use Rattle.ep_single_outputs.proofs.single_inputs.Goals as goal

pub returns : goal.returns
returns g c = inputs_are_exact g.N.Num.ops g.met.N.Num.laws
