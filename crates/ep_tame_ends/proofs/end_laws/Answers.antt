use Rattle.ep_tame_ends.proofs.Gathered.{ends_are_good}
use Rattle.ep_tame_ends.proofs.end_laws.Goals as goal

pub returns : goal.returns
returns g c keeps products p formed built tame ord =
    ends_are_good g.N.Num.ops g.met.N.Num.laws keeps products p formed built tame ord
