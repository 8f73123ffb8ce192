use Rattle.ep_singles.proofs.Settled.{reads_are_one}
use Rattle.ep_single_places.proofs.Places.{accesses_are_one}
use Rattle.ep_single_places.proofs.Loads.{loads_are_one}
use Rattle.ep_single_places.proofs.single_accesses.Goals as goal

pub returns-clause-accesses : goal.returns-clause-accesses
returns-clause-accesses g c = accesses_are_one g.N.Num.ops g.met.N.Num.laws

pub returns-clause-loads : goal.returns-clause-loads
returns-clause-loads g c =
    loads_are_one g.N.Num.ops g.met.N.Num.laws (reads_are_one g.N.Num.ops g.met.N.Num.laws)
