use Rattle.ep_tame_clears.proofs.Statements.{clears_keep_good}
use Rattle.ep_tame_clears.proofs.clear_laws.Goals as goal

pub returns : goal.returns
returns g c keeps products p formed built tame ord =
    clears_keep_good g.N.Num.ops g.met.N.Num.laws keeps products p formed built tame ord
