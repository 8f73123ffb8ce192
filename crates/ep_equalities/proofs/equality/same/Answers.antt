use Rattle.std.proofs.Common.{sym, subst}
use Rattle.ep_equalities.specs.Pairs.{AreEqualIf}
use Rattle.ep_equalities.proofs.Equal.{same_values}
use Rattle.ep_equalities.proofs.equality.same.Goals as goal

pub returns-clause-equal : goal.returns-clause-equal
returns-clause-equal g c =
    subst (λ b. AreEqualIf b g.N.Num.ops c.args.p.now) (sym c.is_same.ensures) (same_values g.N.Num.ops g.met.N.Num.laws c.args.p.now)
