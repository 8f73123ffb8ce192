use Rattle.std.proofs.Common.{Ok, ap, sym}
use Rattle.std.specs.Int.{w128}
use Rattle.std.proofs.lemmas.Int.{rem_is, to_z-of_z}
use Rattle.ep_int.proofs.operators.remainder.Goals as goal

pub returns-then-is_divisible : goal.returns-then-is_divisible
returns-then-is_divisible c =
    let fx = c.ranges.x in
    let fy = c.ranges.y in
    let passed = simp to_z-of_z at c.if-is_divisible.ensures in
    rw (sym passed) (ap Ok (rem_is w128 c.args.x c.args.y fx fy))
