use Rattle.std.proofs.Common.{refl}
use Rattle.endport.proofs.prove.number_reports.Goals as goal

pub returns-clause-tame : goal.returns-clause-tame
returns-clause-tame c = c.tame_alarms.ensures

pub returns-clause-closed : goal.returns-clause-closed
returns-clause-closed c = c.closed_alarms.ensures refl

pub returns-clause-straight : goal.returns-clause-straight
returns-clause-straight c = c.straight_alarms.ensures refl

pub returns-clause-mover : goal.returns-clause-mover
returns-clause-mover c = c.mover_alarms.ensures refl
