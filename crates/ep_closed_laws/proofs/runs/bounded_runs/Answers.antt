use Rattle.ep_closed_laws.proofs.Steps.{ends_alike}
use Rattle.ep_closed_laws.proofs.runs.bounded_runs.Goals as goal

pub returns : goal.returns
returns c p formed a b u inputs h i z = ends_alike p formed a b u inputs h i z
