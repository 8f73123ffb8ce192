use Rattle.ep_bits.proofs.Machine.{seen, formed_same}
use Rattle.ep_bits.proofs.results.in_type.Goals as goal

pub returns : goal.returns
returns c =
    let a = seen c.x.inside in
    rw (← c.x.view_is) (formed_same c.formed.result c.zeros_in_type.result c.ones_in_type.result _ _ c.formed.ensures
    (c.zeros_in_type.ensures a.ones) (c.ones_in_type.ensures a.zeros))
