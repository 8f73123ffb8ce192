use Rattle.ep_core.proofs.laws.laws.Goals as goal
use Rattle.ep_core.proofs.Bodies.{bodies_stand, turns_stay}
use Rattle.ep_core.proofs.WaysTaken.{leaves_by_its_ways}
use Rattle.ep_core.proofs.Whole.{steps_go_on, turns_go_on, turns_go_further, steps_reach, agrees_along}

pub returns-clause-steps : goal.returns-clause-steps
returns-clause-steps c = steps_go_on

pub returns-clause-turns : goal.returns-clause-turns
returns-clause-turns c = turns_go_on

pub returns-clause-more_turns : goal.returns-clause-more_turns
returns-clause-more_turns c = turns_go_further

pub returns-clause-reach : goal.returns-clause-reach
returns-clause-reach c = steps_reach

pub returns-clause-along : goal.returns-clause-along
returns-clause-along c = agrees_along

pub returns-clause-ways : goal.returns-clause-ways
returns-clause-ways c = leaves_by_its_ways

pub returns-clause-turns_stay : goal.returns-clause-turns_stay
returns-clause-turns_stay c = turns_stay

pub returns-clause-bodies : goal.returns-clause-bodies
returns-clause-bodies c = bodies_stand
