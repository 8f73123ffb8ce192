use Rattle.ep_core.proofs.typing_laws.typing_laws.Goals as goal
use Rattle.ep_core.proofs.Typing.{values_fit, places_lie}
use Rattle.ep_core.proofs.Operands.{statements_fit, mains_fit}
use Rattle.ep_core.proofs.Fitting.{every_body_keeps, statements_keep, runs_fit}

pub returns-clause-values : goal.returns-clause-values
returns-clause-values c = values_fit

pub returns-clause-places : goal.returns-clause-places
returns-clause-places c = places_lie

pub returns-clause-statements : goal.returns-clause-statements
returns-clause-statements c = statements_fit

pub returns-clause-bodies : goal.returns-clause-bodies
returns-clause-bodies c = every_body_keeps

pub returns-clause-lists : goal.returns-clause-lists
returns-clause-lists c = statements_keep

pub returns-clause-runs : goal.returns-clause-runs
returns-clause-runs c = runs_fit

pub returns-clause-main : goal.returns-clause-main
returns-clause-main c = mains_fit
