use Rattle.ep_single_pairs.proofs.Pairs.{sames_are_known, tests_go_on}
use Rattle.ep_single_pairs.proofs.single_pairs.Goals as goal

pub returns-clause-sames : goal.returns-clause-sames
returns-clause-sames g c = sames_are_known g.N.Num.ops g.met.N.Num.laws

pub returns-clause-tests : goal.returns-clause-tests
returns-clause-tests g c = tests_go_on g.N.Num.ops
