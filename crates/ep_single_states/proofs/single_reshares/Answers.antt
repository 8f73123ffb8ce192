use Rattle.ep_single_states.proofs.Reshares.{reshares_are_exact}
use Rattle.ep_single_states.proofs.single_reshares.Goals as goal

pub returns : goal.returns
returns g c keeps p ord s m k h = reshares_are_exact g.N.Num.ops g.met.N.Num.laws keeps p ord s m k h
