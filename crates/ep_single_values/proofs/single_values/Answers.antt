use Rattle.ep_single_values.proofs.Final.{values_are_one, places_are_one}
use Rattle.ep_single_values.proofs.single_values.Goals as goal

pub returns-clause-values : goal.returns-clause-values
returns-clause-values g c = values_are_one g.N.Num.ops g.met.N.Num.laws

pub returns-clause-places : goal.returns-clause-places
returns-clause-places g c = places_are_one g.N.Num.ops g.met.N.Num.laws
