use Rattle.ep_tame_places.proofs.Steps.{place_laws_of}
use Rattle.ep_tame_accesses.proofs.Accesses.{accesses_of}
use Rattle.ep_tame_accesses.proofs.access_laws.Goals as goal

pub returns : goal.returns
returns g c keeps products p built tame fit =
    accesses_of g.N.Num.ops p (place_laws_of g.N.Num.ops g.met.N.Num.laws keeps products p built tame fit)
