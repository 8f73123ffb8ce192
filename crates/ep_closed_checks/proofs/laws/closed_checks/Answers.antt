use Rattle.ep_closed_checks.proofs.Passes.{closed_pass}
use Rattle.ep_closed_checks.proofs.laws.closed_checks.Goals as goal

pub returns : goal.returns
returns g c = closed_pass g.S.ExactStates.ops g.S.ExactStates.ConcretisesOne g.S.ExactStates.laws
