use Rattle.std.proofs.Common.{rules, map, ap, arith}
use Rattle.ep_int.proofs.Basics.{drop-at}
use Rattle.ep_cert_writing.proofs.Written.{none_left}
use Rattle.ep_cert.specs.Certificate.{IsBounded}
use Rattle.ep_cert.proofs.Writable.{goes_on, stops, ends}
use Rattle.ep_cert.proofs.making.are_bounded.Goals as goal

pub loop-c-preserved : goal.loop-c-preserved
loop-c-preserved c =
    goes_on IsBounded _ _ _ c.c-item.result.now c.is_bounded.result
    (ap (map (λ r. r.now)) (drop-at c.loop-c.c-index c.args.cells.now c.c-item.result c.loop-c-test.true c.c-item.is))
    c.is_bounded.ensures (search rules) c.loop-c.invariant

pub returns-then-not-is_bounded : goal.returns-then-not-is_bounded
returns-then-not-is_bounded c =
    stops IsBounded _ _ _ c.c-item.result.now c.is_bounded.result
    (ap (map (λ r. r.now)) (drop-at c.loop-c.c-index c.args.cells.now c.c-item.result c.loop-c-test.true c.c-item.is))
    c.is_bounded.ensures (search rules) c.loop-c.invariant

pub returns : goal.returns
returns c =
    ends IsBounded _ _
    (ap (map (λ r. r.now)) (none_left c.loop-c.c-index c.args.cells.now (omega (arith, c.loop-c-test.false))))
    c.loop-c.invariant
