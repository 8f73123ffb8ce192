use Rattle.ep_straight_laws.proofs.Fine.{straight}
use Rattle.ep_straight_laws.proofs.straight_verdicts.Goals as goal

pub returns : goal.returns
returns g c = record { exact = λ meets. straight g.N.Num.ops g.met.N.Num.laws meets }
