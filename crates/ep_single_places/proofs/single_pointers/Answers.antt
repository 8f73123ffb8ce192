use Rattle.ep_single_places.proofs.Truths.{truths_are_one, comparisons_are_one}
use Rattle.ep_single_places.proofs.single_pointers.Goals as goal

pub returns-clause-truths : goal.returns-clause-truths
returns-clause-truths g c = truths_are_one g.N.Num.ops g.met.N.Num.laws

pub returns-clause-comparisons : goal.returns-clause-comparisons
returns-clause-comparisons g c = comparisons_are_one g.N.Num.ops g.met.N.Num.laws
