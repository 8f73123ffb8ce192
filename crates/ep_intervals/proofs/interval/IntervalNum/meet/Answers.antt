use Rattle.std.proofs.Common.{subst, sym}
use Rattle.std.proofs.lemmas.Int.{to_z-of_z}
use Rattle.ep_interval_laws.specs.Least.{IsCommon}
use Rattle.ep_interval_laws.proofs.Least.{meet_common}
use Rattle.ep_intervals.proofs.Machine.{seen, low_fits, high_fits}
use Rattle.ep_intervals.proofs.interval.IntervalNum.meet.Goals as goal

pub returns-clause-value : goal.returns-clause-value
returns-clause-value c =
    let b = seen c.o.inside in
    let p = low_fits b in let q = high_fits b in
    let e = simp to_z-of_z at c.overlap.ensures in
    rw (← c.o.view_is) e

pub returns-clause-common : goal.returns-clause-common
returns-clause-common c = subst (IsCommon c.args.self.now c.args.o.now) (sym (returns-clause-value c)) (meet_common c.args.self.now c.args.o.now)
