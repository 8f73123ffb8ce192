use Rattle.std.proofs.Common.{All, subst}
use Rattle.ep_alarms.specs.Alarm.{FitsTypes}
use Rattle.ep_alarms.proofs.list.Alarms.list.Goals as goal

pub returns-clause-typed : goal.returns-clause-typed
returns-clause-typed c = subst (All FitsTypes) c.self.view_is c.self.invariant.1
