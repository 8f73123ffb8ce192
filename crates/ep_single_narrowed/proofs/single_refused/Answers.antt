use Rattle.ep_single_narrowed.proofs.Refused.{numbers_are_refused, pointers_are_refused, tests_are_refused}
use Rattle.ep_single_narrowed.proofs.single_refused.Goals as goal

pub returns-clause-numbers : goal.returns-clause-numbers
returns-clause-numbers g c = numbers_are_refused g.N.Num.ops g.met.N.Num.laws

pub returns-clause-pointers : goal.returns-clause-pointers
returns-clause-pointers g c = pointers_are_refused g.N.Num.ops g.met.N.Num.laws

pub returns-clause-tests : goal.returns-clause-tests
returns-clause-tests g c = tests_are_refused g.N.Num.ops g.met.N.Num.laws
