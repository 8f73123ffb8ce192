use Rattle.ep_mover_take_bytes.proofs.Taking.{taken_bytes_stand}
use Rattle.ep_mover_take_bytes.proofs.mover_take_bytes.Goals as goal

pub returns : goal.returns
returns g c = taken_bytes_stand g.N.Num.ops g.met.N.Num.laws c.mover_input_bytes.ensures
