use Rattle.std.proofs.Common.{arith}
use Rattle.ep_cert_writing.proofs.Written.{none_yet, byte_more, bytes_done}
use Rattle.ep_cert_writing.proofs.bytes.put_low.Goals as goal

pub loop-init : goal.loop-init
loop-init c = none_yet c.args.out.now.items c.args.count c.args.number

pub loop-preserved : goal.loop-preserved
loop-preserved c = byte_more _ _ _ _ _ _ _ c.loop-test.true c.in_ok-put_byte.ensures c.loop.invariant

pub returns : goal.returns
returns c = bytes_done _ _ _ _ _ (omega (arith, c.loop-test.false)) c.loop.invariant
