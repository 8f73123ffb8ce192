use Rattle.endport.proofs.Reporting.{if_any}
use Rattle.endport.proofs.report.report_on.Goals as goal

pub returns-clause-closed : goal.returns-clause-closed
returns-clause-closed c = if_any _ c.closed_alarms.ensures

pub returns-clause-straight : goal.returns-clause-straight
returns-clause-straight c = if_any _ c.straight_alarms.ensures

pub returns-clause-mover : goal.returns-clause-mover
returns-clause-mover c = if_any _ c.mover_alarms.ensures
