use Rattle.ep_elaboration.proofs.Turns.{one_more}
use Rattle.ep_elaboration.proofs.Behind.{in_order}
use Rattle.ep_elaboration.proofs.calls.orders.Goals as goal

pub returns : goal.returns
returns c = record { steps = one_more; places = in_order }
