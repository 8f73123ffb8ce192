use Rattle.ep_mover_known.proofs.Telling.{inputs_tell}
use Rattle.ep_mover_known.proofs.mover_known.Goals as goal

pub returns : goal.returns
returns g c = inputs_tell g.N.Num.ops g.met.N.Num.laws
