use Rattle.ep_single_moves.proofs.Moves.{moves_keep_one}
use Rattle.ep_single_moves.proofs.single_moves.Goals as goal

pub returns : goal.returns
returns g c k m o one agg q p n room = moves_keep_one g.N.Num.ops g.met.N.Num.laws k m o one agg q p n room
