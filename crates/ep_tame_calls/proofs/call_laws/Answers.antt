use Rattle.ep_tame_calls.proofs.Gathered.{calls_keep_good}
use Rattle.ep_tame_calls.proofs.call_laws.Goals as goal

pub returns : goal.returns
returns g c keeps products p formed built tame ord =
    calls_keep_good g.N.Num.ops g.met.N.Num.laws keeps products p formed built tame ord
