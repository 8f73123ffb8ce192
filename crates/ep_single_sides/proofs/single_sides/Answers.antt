use Rattle.ep_single_states.proofs.Operators.{operators_keep_one}
use Rattle.ep_single_sides.proofs.Sides.{sides_are_one}
use Rattle.ep_single_sides.proofs.single_sides.Goals as goal

pub returns : goal.returns
returns g c =
    sides_are_one g.N.Num.ops g.met.N.Num.laws (operators_keep_one g.N.Num.ops g.met.N.Num.laws)
