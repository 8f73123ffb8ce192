use Rattle.ep_tame_places.proofs.Steps.{place_laws_of}
use Rattle.ep_tame_accesses.proofs.Accesses.{accesses_of}
use Rattle.ep_tame_states.proofs.Gathered.{state_laws_of}
use Rattle.ep_tame_twins.proofs.Expressions.{twin_laws_of}
use Rattle.ep_tame_twins.proofs.twin_laws.Goals as goal

pub returns : goal.returns
returns g c keeps products p built tame fit ord =
    let places = place_laws_of g.N.Num.ops g.met.N.Num.laws keeps products p built tame fit in
    twin_laws_of g.N.Num.ops p ord built tame fit keeps places (accesses_of g.N.Num.ops p places)
    (state_laws_of g.N.Num.ops g.met.N.Num.laws p places ord fit)
