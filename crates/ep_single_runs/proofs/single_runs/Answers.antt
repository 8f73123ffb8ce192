use Rattle.ep_single_runs.proofs.Places.{runs_are_one}
use Rattle.ep_single_runs.proofs.single_runs.Goals as goal

pub returns : goal.returns
returns g c = runs_are_one g.N.Num.ops g.met.N.Num.laws
