use Rattle.ep_reads.proofs.GatheredSteps.{of_steps}
use Rattle.ep_reads.proofs.laws.step_laws.Goals as goal

pub returns : goal.returns
returns g c = of_steps g.N.Num.ops
