use Rattle.std.specs.Prelude.{pos}
use Rattle.ep_range_laws.proofs.Options.{some_from, unwrapped}
use Rattle.ep_domain.specs.Pairs.{tops}
use Rattle.ep_domain.specs.Laws.Narrowed.{HoldsPair}
use Rattle.ep_domain.specs.Laws.PairTops.{top_is_there}
use Rattle.ep_domain.proofs.pair.PairNum.top.Goals as goal

pub unwrap-requires : goal.unwrap-requires
unwrap-requires g c =
    let e = rw (c.top.ensures, c.top-2.ensures) at c.narrowed.ensures in
    some_from (HoldsPair g.A.Num g.B.Num g.met.A.Num.laws g.met.B.Num.laws (pos 0)) _ _ e (top_is_there g.A.Num g.B.Num g.met.A.Num.laws g.met.B.Num.laws c.args.t)

pub returns : goal.returns
returns g c =
    let e = rw (c.top.ensures, c.top-2.ensures) at c.narrowed.ensures in
    unwrapped _ _ (tops {f = g.A.Num} {g = g.B.Num} c.args.t) _ e c.unwrap.ensures
