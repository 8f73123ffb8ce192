use Rattle.std.proofs.Common.{arith}
use Rattle.ep_state_steps.proofs.Loops.{pushed_all}
use Rattle.ep_state_steps.proofs.turns.push_all.Goals as goal

pub returns : goal.returns
returns g c =
    pushed_all c.args.more.now c.loop-c.c-index c.loop-c.out.items _ (omega (arith, c.loop-c-test.false))
    c.loop-c.invariant
