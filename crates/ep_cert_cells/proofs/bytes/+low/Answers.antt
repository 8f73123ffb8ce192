use Rattle.std.proofs.Common.{◌<◌, arith}
use Rattle.ep_cert_cells.proofs.Ends.{byte_more, at_most}
use Rattle.ep_cert_cells.proofs.bytes.+low.Goals as goal

pub overflow_mul-result : goal.overflow_mul-result
overflow_mul-result t c =
    let some : 0 < c.args.count = omega (arith, c.if-count-eq0.false) in
    let m = byte_more c.args.count 0 c.in_ok-above.above some (omega arith) c.in_ok-above.ensures.below in
    omega (arith, m, at_most c.args.count c.requires)

pub overflow_add-result : goal.overflow_add-result
overflow_add-result t c =
    let some : 0 < c.args.count = omega (arith, c.if-count-eq0.false) in
    let m = byte_more c.args.count c.in_ok-first.first c.in_ok-above.above some c.in_ok-first.ensures.below
    c.in_ok-above.ensures.below in
    omega (arith, m, c.from.ensures, at_most c.args.count c.requires)

pub returns-clause-below : goal.returns-clause-below
returns-clause-below t c =
    let some : 0 < c.args.count = omega (arith, c.if-count-eq0.false) in
    let m = byte_more c.args.count c.in_ok-first.first c.in_ok-above.above some c.in_ok-first.ensures.below
    c.in_ok-above.ensures.below in
    omega (arith, m, c.from.ensures)
