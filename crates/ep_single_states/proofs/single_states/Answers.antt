use Rattle.ep_single_states.proofs.Blocks.{blocks_keep_one}
use Rattle.ep_single_states.proofs.single_states.Goals as goal

pub returns : goal.returns
returns g c p ord formed = blocks_keep_one g.N.Num.ops g.met.N.Num.laws p ord formed
