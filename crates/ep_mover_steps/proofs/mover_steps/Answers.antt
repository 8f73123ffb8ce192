use Rattle.ep_mover_steps.proofs.Alones.{alones_stand}
use Rattle.ep_mover_steps.proofs.Stepping.{steps_stand}
use Rattle.ep_mover_steps.proofs.mover_steps.Goals as goal

pub returns-clause-steps : goal.returns-clause-steps
returns-clause-steps g c = steps_stand g.N.Num.ops g.met.N.Num.laws

pub returns-clause-alone : goal.returns-clause-alone
returns-clause-alone g c = alones_stand g.N.Num.ops g.met.N.Num.laws
