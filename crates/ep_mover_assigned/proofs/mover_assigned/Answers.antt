use Rattle.ep_mover_assigned.proofs.Assigned.{assignments_keep, inputs_keep, outputs_agree}
use Rattle.ep_mover_assigned.proofs.mover_assigned.Goals as goal

pub returns-clause-assignments : goal.returns-clause-assignments
returns-clause-assignments g c = assignments_keep g.N.Num.ops g.met.N.Num.laws

pub returns-clause-outputs : goal.returns-clause-outputs
returns-clause-outputs g c = outputs_agree g.N.Num.ops g.met.N.Num.laws

pub returns-clause-inputs : goal.returns-clause-inputs
returns-clause-inputs g c = inputs_keep g.N.Num.ops g.met.N.Num.laws
