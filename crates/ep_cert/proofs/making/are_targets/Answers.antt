use Rattle.std.proofs.Common.{rules, arith}
use Rattle.ep_int.proofs.Basics.{drop-at}
use Rattle.ep_cert_writing.proofs.Written.{none_left}
use Rattle.ep_cert_cells.specs.Bytes.{IsTarget}
use Rattle.ep_cert.proofs.Writable.{goes_on, stops, ends}
use Rattle.ep_cert.proofs.making.are_targets.Goals as goal

pub loop-t-preserved : goal.loop-t-preserved
loop-t-preserved c =
    goes_on IsTarget _ _ _ c.t-item.result c.is_target.result
    (drop-at c.loop-t.t-index c.args.targets.now c.t-item.result c.loop-t-test.true c.t-item.is)
    c.is_target.ensures (search rules) c.loop-t.invariant

pub returns-then-not-is_target : goal.returns-then-not-is_target
returns-then-not-is_target c =
    stops IsTarget _ _ _ c.t-item.result c.is_target.result
    (drop-at c.loop-t.t-index c.args.targets.now c.t-item.result c.loop-t-test.true c.t-item.is)
    c.is_target.ensures (search rules) c.loop-t.invariant

pub returns : goal.returns
returns c =
    ends IsTarget _ _ (none_left c.loop-t.t-index c.args.targets.now (omega (arith, c.loop-t-test.false)))
    c.loop-t.invariant
