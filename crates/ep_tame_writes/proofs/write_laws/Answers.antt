use Rattle.ep_tame_places.proofs.Steps.{place_laws_of}
use Rattle.ep_tame_writes.proofs.Written.{writes_keep_good}
use Rattle.ep_tame_writes.proofs.write_laws.Goals as goal

pub returns : goal.returns
returns g c keeps products p built tame fit ord =
    writes_keep_good g.N.Num.ops g.met.N.Num.laws p
    (place_laws_of g.N.Num.ops g.met.N.Num.laws keeps products p built tame fit) ord
