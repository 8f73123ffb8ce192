use Rattle.ep_pass.proofs.Counts.{turns_within}
use Rattle.ep_pass.proofs.Placing.{alarms_stand}
use Rattle.ep_pass.proofs.Circle.{circle, circles}
use Rattle.ep_pass.proofs.laws.reports.Goals as goal

pub returns-clause-turns : goal.returns-clause-turns
returns-clause-turns g c o u limit some ord p = turns_within o u limit some ord p

pub returns-clause-places : goal.returns-clause-places
returns-clause-places g c ops strides honest p ord formed built u limit =
    alarms_stand p strides formed (ops p ord) (honest p ord formed built) u limit ord

pub returns-clause-heads : goal.returns-clause-heads
returns-clause-heads g c o turn h again same k = circle o turn h again same k

pub returns-clause-rounds : goal.returns-clause-rounds
returns-clause-rounds g c o turn d h none same q k n sum = circles o turn d h none same q k n sum
