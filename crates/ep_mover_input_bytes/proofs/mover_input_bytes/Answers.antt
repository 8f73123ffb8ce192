use Rattle.ep_mover_input_bytes.proofs.Inputs.{input_bytes_keep}
use Rattle.ep_mover_input_bytes.proofs.mover_input_bytes.Goals as goal

pub returns : goal.returns
returns g c = input_bytes_keep g.N.Num.ops g.met.N.Num.laws
