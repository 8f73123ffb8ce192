use Rattle.ep_alarm_laws.proofs.Safe.{plain_honest, even_honest}
use Rattle.ep_alarm_laws.proofs.honest_laws.Goals as goal

pub returns-clause-cells : goal.returns-clause-cells
returns-clause-cells g c = plain_honest g.N.Num.ops g.met.N.Num.laws

pub returns-clause-even : goal.returns-clause-even
returns-clause-even g c = even_honest g.N.Num.ops g.met.N.Num.laws
