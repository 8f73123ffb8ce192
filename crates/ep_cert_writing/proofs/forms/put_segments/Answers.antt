use Rattle.std.proofs.Common.{arith, refl}
use Rattle.ep_cert_cells.specs.Bytes.{segment_bytes}
use Rattle.ep_cert_writing.proofs.Written.{one_more, all_done}
use Rattle.ep_cert_writing.proofs.forms.put_segments.Goals as goal

pub loop-s-preserved : goal.loop-s-preserved
loop-s-preserved c =
    one_more segment_bytes _ c.loop-s.out.items c.put_segment.new.out.items c.args.segments.now c.loop-s.s-index _ _
    c.loop-s-test.true refl c.in_ok-put_segment.ensures c.loop-s.invariant

pub returns : goal.returns
returns c = all_done segment_bytes _ _ c.args.segments.now c.loop-s.s-index (omega (arith, c.loop-s-test.false)) c.loop-s.invariant
