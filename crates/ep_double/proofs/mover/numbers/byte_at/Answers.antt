use Rattle.ep_double.proofs.ByteSteps.{byte_by_shift}
use Rattle.ep_double.proofs.mover.numbers.byte_at.Goals as goal

pub returns : goal.returns
returns c = byte_by_shift c.args.k c.args.n
