use Rattle.ep_single_narrowed.proofs.Stays.{numbers_stay_one, pointers_stay_one, tests_stay_one}
use Rattle.ep_single_narrowed.proofs.single_narrowed.Goals as goal

pub returns-clause-numbers : goal.returns-clause-numbers
returns-clause-numbers g c = numbers_stay_one g.N.Num.ops g.met.N.Num.laws

pub returns-clause-pointers : goal.returns-clause-pointers
returns-clause-pointers g c = pointers_stay_one g.N.Num.ops g.met.N.Num.laws

pub returns-clause-tests : goal.returns-clause-tests
returns-clause-tests g c = tests_stay_one g.N.Num.ops g.met.N.Num.laws
