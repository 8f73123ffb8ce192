use Rattle.ep_single_restricted.proofs.Runs.{is_restricted}
use Rattle.ep_single_restricted.proofs.restricted_runs.Goals as goal

pub returns : goal.returns
returns c o p = is_restricted o p
