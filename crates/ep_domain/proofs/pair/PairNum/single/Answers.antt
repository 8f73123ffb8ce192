use Rattle.std.proofs.lemmas.Int.{to_z-of_z}
use Rattle.ep_range_laws.proofs.Options.{some_from}
use Rattle.ep_domain.specs.Laws.Narrowed.{BothSingle}
use Rattle.ep_domain.specs.Laws.PairTops.{single_is_there, single_value}
use Rattle.ep_domain.proofs.pair.PairNum.single.Goals as goal

pub unwrap-requires : goal.unwrap-requires
unwrap-requires g c =
    let f = c.ranges.v in
    let l = simp to_z-of_z at c.single.ensures in
    let r = simp to_z-of_z at c.single-2.ensures in
    let e = rw (l, r) at c.narrowed.ensures in
    some_from (BothSingle g.A.Num g.B.Num g.met.A.Num.laws g.met.B.Num.laws c.args.v) _ _ e (single_is_there g.A.Num g.B.Num g.met.A.Num.laws g.met.B.Num.laws c.args.v c.requires)

pub returns : goal.returns
returns g c =
    let f = c.ranges.v in
    let l = simp to_z-of_z at c.single.ensures in
    let r = simp to_z-of_z at c.single-2.ensures in
    let e = rw (l, r) at c.narrowed.ensures in
    single_value g.A.Num g.B.Num g.met.A.Num.laws g.met.B.Num.laws c.args.v c.requires _ _ e c.unwrap.ensures
