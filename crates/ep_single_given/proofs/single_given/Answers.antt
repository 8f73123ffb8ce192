use Rattle.ep_single_given.proofs.Given.{constants_give_one, pointers_give_one, sames_give_one}
use Rattle.ep_single_given.proofs.single_given.Goals as goal

pub returns-clause-constants : goal.returns-clause-constants
returns-clause-constants g c = constants_give_one g.N.Num.ops g.met.N.Num.laws

pub returns-clause-pointers : goal.returns-clause-pointers
returns-clause-pointers g c = pointers_give_one g.N.Num.ops

pub returns-clause-sames : goal.returns-clause-sames
returns-clause-sames g c = sames_give_one g.N.Num.ops
