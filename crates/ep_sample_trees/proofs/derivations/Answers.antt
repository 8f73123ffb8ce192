use Rattle.ep_sample_trees.proofs.Depths.{closed, flat}
use Rattle.ep_sample_trees.proofs.Programs.{derived}
use Rattle.ep_sample_trees.proofs.derivations.Goals as goal

pub returns-clause-derived : goal.returns-clause-derived
returns-clause-derived c = derived

pub returns-clause-shallow : goal.returns-clause-shallow
returns-clause-shallow c = λ start fields. (closed start fields, flat start fields)
