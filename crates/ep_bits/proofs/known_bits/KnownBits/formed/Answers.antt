use Rattle.ep_bits.proofs.Machine.{formed_code}
use Rattle.ep_bits.proofs.known_bits.KnownBits.formed.Goals as goal

pub returns : goal.returns
returns c =
    formed_code c.made_if.result c.args.zeros c.args.ones c.closed_zeros.result c.closed_ones.result c.made_if.ensures
    (c.closed_zeros.ensures c.args.ones) (c.closed_ones.ensures c.args.zeros)
