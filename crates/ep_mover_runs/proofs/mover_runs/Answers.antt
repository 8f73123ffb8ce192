use Rattle.ep_mover_runs.proofs.Agreeing.{same_agree, agreeing_are_same}
use Rattle.ep_mover_runs.proofs.Whole.{expressions_follow, statements_follow, all_follow, starts_follow, runs_follow}
use Rattle.ep_mover_runs.proofs.mover_runs.Goals as goal

pub returns-clause-expressions : goal.returns-clause-expressions
returns-clause-expressions c = expressions_follow

pub returns-clause-statements : goal.returns-clause-statements
returns-clause-statements c = statements_follow

pub returns-clause-all : goal.returns-clause-all
returns-clause-all c = all_follow

pub returns-clause-starts : goal.returns-clause-starts
returns-clause-starts c = starts_follow

pub returns-clause-runs : goal.returns-clause-runs
returns-clause-runs c = runs_follow

pub returns-clause-same : goal.returns-clause-same
returns-clause-same c = same_agree

pub returns-clause-agreeing : goal.returns-clause-agreeing
returns-clause-agreeing c = agreeing_are_same
