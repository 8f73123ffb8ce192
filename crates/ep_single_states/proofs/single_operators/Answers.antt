use Rattle.ep_single_states.proofs.Operators.{operators_keep_one}
use Rattle.ep_single_states.proofs.single_operators.Goals as goal

pub returns : goal.returns
returns g c = operators_keep_one g.N.Num.ops g.met.N.Num.laws
