use Rattle.std.proofs.Common.{subst, sym}
use Rattle.ep_interval_laws.specs.Least.{IsLeastOf, IsResult}
use Rattle.ep_interval_laws.proofs.Least.{value_least}
use Rattle.ep_intervals.proofs.interval.IntervalNum.op.Goals as goal

pub returns-clause-least : goal.returns-clause-least
returns-clause-least c = λ n. let a = c.args in subst (IsLeastOf (IsResult a.op a.t a.x.now a.y.now)) (sym c.value.ensures) (value_least a.op a.t a.x.now a.y.now n)
