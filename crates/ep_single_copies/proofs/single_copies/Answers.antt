use Rattle.ep_single_copies.proofs.Statements.{copies_are_exact}
use Rattle.ep_single_copies.proofs.single_copies.Goals as goal

pub returns : goal.returns
returns g c = copies_are_exact g.N.Num.ops g.met.N.Num.laws
