use Rattle.std.proofs.Common.{sym, subst}
use Rattle.ep_steps.specs.Ready.{IsDue}
use Rattle.ep_steps.proofs.Due.{due_runs, starves, faults_so}
use Rattle.ep_steps.proofs.steps.found_stop.Goals as goal

pub returns-in-Statement-clause-stops : goal.returns-in-Statement-clause-stops
returns-in-Statement-clause-stops c m fs r f = due_runs m fs c.args.now.now (subst IsDue (sym c.in-Statement.is) tt) f

pub returns-in-Turn-clause-stops : goal.returns-in-Turn-clause-stops
returns-in-Turn-clause-stops c m fs r f = due_runs m fs c.args.now.now (subst IsDue (sym c.in-Turn.is) tt) f

pub returns-in-Reads-clause-stops : goal.returns-in-Reads-clause-stops
returns-in-Reads-clause-stops c m fs r f = due_runs m fs c.args.now.now (subst IsDue (sym c.in-Reads.is) tt) f

pub returns-in-Writes-clause-stops : goal.returns-in-Writes-clause-stops
returns-in-Writes-clause-stops c m fs r f = due_runs m fs c.args.now.now (subst IsDue (sym c.in-Writes.is) tt) f

pub returns-in-Starve-clause-stops : goal.returns-in-Starve-clause-stops
returns-in-Starve-clause-stops c m fs r f left s = rw (c.in-Starve.is) (starves m fs s)

pub returns-in-Faulty-clause-stops : goal.returns-in-Faulty-clause-stops
returns-in-Faulty-clause-stops c m fs r f left s = rw (c.in-Faulty.is) (faults_so m fs c.in-Faulty.line c.in-Faulty.k s)
