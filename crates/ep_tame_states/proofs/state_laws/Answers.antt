use Rattle.ep_tame_places.proofs.Steps.{place_laws_of}
use Rattle.ep_tame_states.proofs.Gathered.{state_laws_of}
use Rattle.ep_tame_states.proofs.state_laws.Goals as goal

pub returns : goal.returns
returns g c keeps products p built tame fit ord =
    state_laws_of g.N.Num.ops g.met.N.Num.laws p
    (place_laws_of g.N.Num.ops g.met.N.Num.laws keeps products p built tame fit) ord fit
