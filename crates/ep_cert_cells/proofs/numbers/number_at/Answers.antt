use Rattle.std.proofs.Common.{rules, FitsSigned}
use Rattle.std.specs.Int.{w128}
use Rattle.std.specs.Prelude.{Some, None}
use Rattle.std.proofs.lemmas.Int.{to_z-of_z}
use Rattle.ep_cert_cells.proofs.Ends.{number_read}
use Rattle.ep_cert_cells.proofs.numbers.number_at.Goals as goal

pub returns-in_err-number : goal.returns-in_err-number
returns-in_err-number c =
    let f : FitsSigned w128 c.in_ok-lo.lo = search rules in
    let g : FitsSigned w128 c.in_ok-hi.hi = search rules in
    let h : FitsSigned w128 c.in_ok-remainder.remainder = search rules in
    let k : FitsSigned w128 c.in_ok-modulus.modulus = search rules in
    let e = simp to_z-of_z at c.in_err-number.ensures in
    rw c.from_residual-in_err-number.ensures
    (number_read c.args.bytes.now _ _ _ _ _ _ _ _ None c.in_ok-lo.ensures c.in_ok-hi.ensures
    c.in_ok-remainder.ensures c.in_ok-modulus.ensures e)

pub returns : goal.returns
returns c =
    let f : FitsSigned w128 c.in_ok-lo.lo = search rules in
    let g : FitsSigned w128 c.in_ok-hi.hi = search rules in
    let h : FitsSigned w128 c.in_ok-remainder.remainder = search rules in
    let k : FitsSigned w128 c.in_ok-modulus.modulus = search rules in
    let e = simp to_z-of_z at c.in_ok-number.ensures in
    number_read c.args.bytes.now _ _ _ _ _ _ _ _ (Some c.in_ok-number.number) c.in_ok-lo.ensures c.in_ok-hi.ensures
    c.in_ok-remainder.ensures c.in_ok-modulus.ensures e
