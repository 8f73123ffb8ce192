use Rattle.std.proofs.Common.{◌<◌, ◌^◌, arith}
use Rattle.ep_double.proofs.Offsets.{product_within}
use Rattle.ep_double.proofs.mover.memory.bytes_of_units.Goals as goal

pub overflow_mul-result : goal.overflow_mul-result
overflow_mul-result c =
    let u : c.args.unit < 2 ^ 32 = omega arith in
    let n : c.args.count < 2 ^ 32 = omega arith in omega (arith, product_within c.args.unit c.args.count u n)

pub returns-clause-within : goal.returns-clause-within
returns-clause-within c =
    let u : c.args.unit < 2 ^ 32 = omega arith in
    let n : c.args.count < 2 ^ 32 = omega arith in
    let q = c.args.unit in product_within q c.args.count u n
