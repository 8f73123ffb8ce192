use Rattle.std.proofs.Common.{arith, ◌-◌}
use Rattle.std.proofs.Math.Pow.{pow_mono}
use Rattle.ep_bits.proofs.results.shifted_down.Goals as goal

pub overflow_sub-fill : goal.overflow_sub-fill
overflow_sub-fill c = let p = pow_mono {i = 65 - c.args.n} {j = 65}
    (omega arith) in let e = c.power.ensures in omega arith
