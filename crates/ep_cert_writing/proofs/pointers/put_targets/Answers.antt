use Rattle.std.proofs.Common.{arith}
use Rattle.ep_cert_cells.specs.Bytes.{target_bytes}
use Rattle.ep_cert_writing.proofs.Written.{one_more, all_done}
use Rattle.ep_cert_writing.proofs.pointers.put_targets.Goals as goal

pub loop-t-preserved : goal.loop-t-preserved
loop-t-preserved c =
    one_more target_bytes _ c.loop-t.out.items c.put_target.new.out.items c.args.targets.now c.loop-t.t-index c.t-item.result c.t-item.result
    c.loop-t-test.true c.t-item.is c.in_ok-put_target.ensures c.loop-t.invariant

pub returns : goal.returns
returns c = all_done target_bytes _ _ c.args.targets.now c.loop-t.t-index (omega (arith, c.loop-t-test.false)) c.loop-t.invariant
