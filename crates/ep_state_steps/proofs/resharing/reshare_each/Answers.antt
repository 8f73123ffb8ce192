use Rattle.std.proofs.Common.{arith}
use Rattle.ep_state_steps.proofs.Reshares.{reshare_last}
use Rattle.ep_state_steps.proofs.resharing.reshare_each.Goals as goal

pub returns : goal.returns
returns g c =
    reshare_last g.N.Num.ops c.args.places.now c.loop-p.p-index c.loop-p.sofar _ (omega (arith, c.loop-p-test.false))
    c.loop-p.invariant
