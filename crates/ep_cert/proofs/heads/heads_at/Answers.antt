use Rattle.std.proofs.Common.{rules, arith}
use Rattle.ep_cert.proofs.Turns.{one_head, all_heads, head_stops}
use Rattle.ep_cert.proofs.heads.heads_at.Goals as goal

pub returns-in-Err : goal.returns-in-Err
returns-in-Err c =
    head_stops c.args.opening.now c.args.opening.now.count c.args.bytes.now _ _ _ c.in-Err.why c.loop-test.true
    c.loop.invariant c.in-Err.ensures

pub loop-preserved : goal.loop-preserved
loop-preserved c =
    one_head _ _ _ _ _ _ _ _ _ c.loop-test.true c.in-Ok.ensures (search rules) c.loop.invariant

pub returns : goal.returns
returns c = all_heads _ _ _ _ _ _ (omega (arith, c.loop-test.false)) c.loop.invariant
