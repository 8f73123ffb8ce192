use Rattle.std.proofs.Common.{arith}
use Rattle.ep_cells.specs.States.{Known}
use Rattle.ep_cert_cells.specs.Numbers.{Numbers}
use Rattle.ep_cert.specs.Certificate.{head_bytes}
use Rattle.ep_cert_writing.proofs.Written.{one_more, all_done}
use Rattle.ep_cert.proofs.encoding.put_heads.Goals as goal

pub loop-h-preserved : goal.loop-h-preserved
loop-h-preserved c =
    one_more (λ (h : Known Numbers). head_bytes h.cells) _ c.loop-h.out.items c.put_head.new.out.items c.args.heads.now
    c.loop-h.h-index c.h-item.result c.h-item.result c.loop-h-test.true c.h-item.is c.in_ok-put_head.ensures
    c.loop-h.invariant

pub returns : goal.returns
returns c =
    all_done (λ (h : Known Numbers). head_bytes h.cells) _ _ c.args.heads.now c.loop-h.h-index
    (omega (arith, c.loop-h-test.false)) c.loop-h.invariant
