use Rattle.ep_single_moves.proofs.Taken.{taken_are_one}
use Rattle.ep_single_moves.proofs.single_taken.Goals as goal

pub returns : goal.returns
returns g c = taken_are_one g.N.Num.ops g.met.N.Num.laws
