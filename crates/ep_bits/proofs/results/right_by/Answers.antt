use Rattle.ep_bits.proofs.Machine.{formed_same}
use Rattle.ep_bits.proofs.results.right_by.Goals as goal

pub returns : goal.returns
returns c = rw (← c.x.view_is)
    (formed_same c.formed.result c.shifted_down.result c.shifted_down-2.result _ _ c.formed.ensures c.shifted_down.ensures c.shifted_down-2.ensures)
