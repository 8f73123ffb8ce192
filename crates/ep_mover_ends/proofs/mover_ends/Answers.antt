use Rattle.ep_mover_ends.proofs.Ends.{ends_are_quiet}
use Rattle.ep_mover_ends.proofs.mover_ends.Goals as goal

pub returns : goal.returns
returns g c p ord formed form other f at base ms k h zero =
    ends_are_quiet g.N.Num.ops g.met.N.Num.laws p ord formed form other f at base ms k h zero
