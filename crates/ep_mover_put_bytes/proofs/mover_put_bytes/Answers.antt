use Rattle.ep_mover_put_bytes.proofs.Puts.{puts_stand}
use Rattle.ep_mover_put_bytes.proofs.mover_put_bytes.Goals as goal

pub returns : goal.returns
returns g c p ord formed form other f here base ms ns k h e n moving fits steps alike =
    puts_stand g.N.Num.ops g.met.N.Num.laws p ord formed form other f here base ms ns k h e n moving fits steps alike
