use Rattle.std.proofs.Common.{rules, arith}
use Rattle.ep_int.proofs.Basics.{drop-at}
use Rattle.ep_cert_writing.proofs.Written.{none_left}
use Rattle.ep_cert.specs.Certificate.{shown, IsHead}
use Rattle.ep_cert.proofs.Writable.{goes_on, stops, ends}
use Rattle.ep_cert.proofs.making.are_heads.Goals as goal

pub loop-h-preserved : goal.loop-h-preserved
loop-h-preserved c =
    goes_on (IsHead (shown c.args.cert.now)) _ _ _ c.h-item.result _
    (drop-at c.loop-h.h-index c.args.heads.now c.h-item.result c.loop-h-test.true c.h-item.is)
    c.in_ok-is_head.ensures (search rules) c.loop-h.invariant

pub returns-then-not-branch : goal.returns-then-not-branch
returns-then-not-branch c =
    stops (IsHead (shown c.args.cert.now)) _ _ _ c.h-item.result _
    (drop-at c.loop-h.h-index c.args.heads.now c.h-item.result c.loop-h-test.true c.h-item.is)
    c.in_ok-is_head.ensures (search rules) c.loop-h.invariant

pub returns : goal.returns
returns c =
    ends (IsHead (shown c.args.cert.now)) _ _
    (none_left c.loop-h.h-index c.args.heads.now (omega (arith, c.loop-h-test.false))) c.loop-h.invariant
