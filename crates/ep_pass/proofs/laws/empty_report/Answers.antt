use Rattle.ep_pass.proofs.Sound.{sound}
use Rattle.ep_pass.proofs.laws.empty_report.Goals as goal

pub returns : goal.returns
returns g c p ord formed other u limit e =
    sound p formed ord (g.S.States.ops p ord) (g.S.States.In p ord) (g.S.States.laws p ord formed other) u limit e
