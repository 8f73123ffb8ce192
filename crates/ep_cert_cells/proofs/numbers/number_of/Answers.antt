use Rattle.std.proofs.lemmas.Int.{to_z-of_z}
use Rattle.ep_cert_cells.proofs.Ends.{no_class, no_range, paired}
use Rattle.ep_cert_cells.proofs.numbers.number_of.Goals as goal

pub returns-in_err-interval : goal.returns-in_err-interval
returns-in_err-interval c =
    let f = c.ranges.lo in let g = c.ranges.hi in
    let e = simp to_z-of_z at c.in_err-interval.ensures in
    rw c.from_residual.ensures (no_range c.args.lo c.args.hi c.args.remainder c.args.modulus e)

pub returns-in_err-congruence : goal.returns-in_err-congruence
returns-in_err-congruence c =
    let f = c.ranges.lo in let g = c.ranges.hi in let h = c.ranges.remainder in let k = c.ranges.modulus in
    let e = simp to_z-of_z at c.in_ok-interval.ensures in
    let n = simp to_z-of_z at c.in_err-congruence.ensures in
    rw c.from_residual-in_err-congruence.ensures
    (no_class c.args.lo c.args.hi c.args.remainder c.args.modulus c.in_ok-interval.interval e n)

pub returns : goal.returns
returns c =
    let f = c.ranges.lo in let g = c.ranges.hi in let h = c.ranges.remainder in let k = c.ranges.modulus in
    let e = simp to_z-of_z at c.in_ok-interval.ensures in
    let n = simp to_z-of_z at c.in_ok-congruence.ensures in
    paired c.args.lo c.args.hi c.args.remainder c.args.modulus c.in_ok-interval.interval
    c.in_ok-congruence.congruence c.of.result e n c.of.ensures
