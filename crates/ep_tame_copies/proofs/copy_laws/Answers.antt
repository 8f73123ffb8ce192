use Rattle.ep_tame_copies.proofs.Statements.{copies_keep_good}
use Rattle.ep_tame_copies.proofs.copy_laws.Goals as goal

pub returns : goal.returns
returns g c keeps products p formed built tame ord =
    copies_keep_good g.N.Num.ops g.met.N.Num.laws keeps products p formed built tame ord
