use Rattle.std.proofs.Common.{arith}
use Rattle.ep_state_steps.proofs.Loops.{parts_turn, met_last}
use Rattle.ep_state_steps.proofs.parting.part_at_each.Goals as goal

pub loop-p-preserved : goal.loop-p-preserved
loop-p-preserved g c =
    parts_turn c.args.state c.args.places.now c.loop-p.p-index _ c.loop-p.sofar.state c.in_ok-next.next.state
    c.loop-p.sofar.lefts.items c.in_ok-next.next.lefts.items c.loop-p-test.true c.in_ok-next.ensures.state
    c.in_ok-next.ensures.lefts c.loop-p.invariant

pub returns-clause-state : goal.returns-clause-state
returns-clause-state g c =
    met_last c.args.places.now c.loop-p.p-index c.loop-p.sofar.state _ (omega (arith, c.loop-p-test.false))
    c.model.ensures.cells c.loop-p.invariant.0

pub returns-clause-faces : goal.returns-clause-faces
returns-clause-faces g c = c.loop-p.invariant.1
