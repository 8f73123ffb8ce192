use Rattle.ep_elaboration.proofs.Turns.{deeper}
use Rattle.ep_elaboration.proofs.calls.depths.Goals as goal

pub returns : goal.returns
returns c = deeper
