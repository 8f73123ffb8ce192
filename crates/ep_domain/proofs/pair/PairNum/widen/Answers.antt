use Rattle.ep_domain.specs.Laws.Shared.{widened_shared}
use Rattle.ep_domain.specs.Laws.PairWidening.{same_parts}
use Rattle.ep_domain.proofs.pair.PairNum.widen.Goals as goal

pub invariant_of-result : goal.invariant_of-result
invariant_of-result g c = record {
  may_pair = λ law too. rw (c.widen.ensures, c.widen-2.ensures) (widened_shared g.A.Num.ops g.B.Num.ops law too _ _ _ _ (c.args.self.now.may_pair law too));
}

pub returns : goal.returns
returns g c = same_parts g.A.Num g.B.Num g.met.A.Num.laws g.met.B.Num.laws _ _ c.widen.ensures c.widen-2.ensures
