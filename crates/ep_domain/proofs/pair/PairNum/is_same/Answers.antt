use Rattle.std.proofs.Common.{ap}
use Rattle.ep_domain.specs.Laws.PairWidening.{same_parts}
use Rattle.ep_domain.proofs.pair.PairNum.is_same.Goals as goal

pub returns-then-is_same : goal.returns-then-is_same
returns-then-is_same g c = (
  λ h. same_parts g.A.Num g.B.Num g.met.A.Num.laws g.met.B.Num.laws _ _ (c.is_same.ensures.0 c.if-is_same.true) (c.is_same-then-is_same.ensures.0 h),
  λ e. c.is_same-then-is_same.ensures.1 (ap (λ p. p.right) e),
)
