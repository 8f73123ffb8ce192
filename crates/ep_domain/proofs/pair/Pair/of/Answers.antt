use Rattle.std.proofs.Common.{rules, sym}
use Rattle.ep_domain.specs.Laws.Narrowed.{pair_some}
use Rattle.ep_domain.proofs.pair.Pair.of.Goals as goal

pub returns-then-may_pair : goal.returns-then-may_pair
returns-then-may_pair g c = sym (pair_some g.A.Num g.B.Num _ _ _ (search rules))
