use Rattle.ep_mover_values.proofs.Places.{places_at}
use Rattle.ep_mover_values.proofs.Values.{expressions_give}
use Rattle.ep_mover_values.proofs.mover_values.Goals as goal

pub returns-clause-places : goal.returns-clause-places
returns-clause-places g c = places_at g.N.Num.ops g.met.N.Num.laws

pub returns-clause-expressions : goal.returns-clause-expressions
returns-clause-expressions g c = expressions_give g.N.Num.ops g.met.N.Num.laws
