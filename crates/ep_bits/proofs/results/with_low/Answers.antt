use Rattle.ep_bits.proofs.Machine.{with_low_code}
use Rattle.ep_bits.proofs.results.with_low.Goals as goal

pub returns : goal.returns
returns c =
    with_low_code c.args.t c.args.n c.args.word c.power.result c.zeros_of_type.result c.formed.result
    c.formed.ensures c.power.ensures c.zeros_of_type.ensures.value
