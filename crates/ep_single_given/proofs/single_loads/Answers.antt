use Rattle.ep_singles.proofs.Settled.{reads_are_one}
use Rattle.ep_single_given.proofs.Loads.{loads_give_one}
use Rattle.ep_single_given.proofs.single_loads.Goals as goal

pub returns : goal.returns
returns g c p ord w f a sound one k m s mode all =
    loads_give_one g.N.Num.ops g.met.N.Num.laws (reads_are_one g.N.Num.ops g.met.N.Num.laws) p ord w f a sound one k m s
    mode all
