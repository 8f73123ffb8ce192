use Rattle.std.proofs.Common.{arith}
use Rattle.std.proofs.lemmas.Int.{ints, to_z-of_z}
use Rattle.ep_range_laws.specs.Ranges.{IsRange}
use Rattle.ep_cert_cells.proofs.Ends.{joined_ends}
use Rattle.ep_cert_cells.proofs.numbers.interval.Goals as goal

pub returns-then-hi-greatest : goal.returns-then-hi-greatest
returns-then-hi-greatest c =
    let f = c.ranges.lo in let g = c.ranges.hi in
    let a = simp to_z-of_z at c.single.ensures in
    let b = simp to_z-of_z at c.single-then-hi-greatest.ensures in
    let r : IsRange c.args.lo c.args.hi = record {
      above = omega (arith, ints);
      ordered = omega (arith, ints);
      below = omega (arith, ints);
    } in
    joined_ends c.args.lo c.args.hi c.single.result c.single-then-hi-greatest.result c.join.result r a b
    c.join.ensures.value
