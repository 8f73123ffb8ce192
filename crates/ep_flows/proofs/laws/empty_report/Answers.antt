use Rattle.ep_pass.proofs.Sound.{sound}
use Rattle.ep_flows.proofs.laws.empty_report.Goals as goal

pub returns : goal.returns
returns g c p ord formed other u limit e =
    sound p formed ord (g.K.AbstractStates.ops p ord) (g.K.LawfulStates.In p ord)
    (g.met.K.LawfulStates.laws p ord formed other) u limit e
