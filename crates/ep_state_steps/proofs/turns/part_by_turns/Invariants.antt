use Rattle.ep_state_steps.proofs.ByTurns.{AreTurned}
use Rattle.ep_state_steps.proofs.turns.part_by_turns.Given as goal

abbrev pub invariant-loop : goal.invariant-loop
invariant-loop g l =
    AreTurned l.times l.counter l.fn.start.left l.fn.start.right l.sofar.left l.sofar.right l.sofar.for_left.items
    l.sofar.for_right.items
