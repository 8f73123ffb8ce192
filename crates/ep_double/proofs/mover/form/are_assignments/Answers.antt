use Rattle.std.proofs.Common.{arith}
use Rattle.ep_double.proofs.ByteSteps.{goes_further, stops_here}
use Rattle.ep_double.proofs.Moves.{next_assignment}
use Rattle.ep_double.proofs.mover.form.are_assignments.Goals as goal

pub returns-then-not-is_assignment : goal.returns-then-not-is_assignment
returns-then-not-is_assignment c =
    stops_here _ _ _ _ c.loop-s.invariant
    (next_assignment c.args.body.now c.loop-s.s-index c.s-item.result (omega arith) c.s-item.is c.is_assignment.result
    c.is_assignment.ensures)
    c.if-not-is_assignment.true

pub loop-s-preserved : goal.loop-s-preserved
loop-s-preserved c =
    goes_further _ _ _ _ c.loop-s.invariant
    (next_assignment c.args.body.now c.loop-s.s-index c.s-item.result (omega arith) c.s-item.is c.is_assignment.result
    c.is_assignment.ensures)
    c.if-not-is_assignment.false
