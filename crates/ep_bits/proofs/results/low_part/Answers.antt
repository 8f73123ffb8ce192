use Rattle.ep_bits.proofs.Machine.{low_part_code}
use Rattle.ep_bits.proofs.results.low_part.Goals as goal

pub returns : goal.returns
returns c =
    let a = c.args in
    low_part_code a.t a.zeros a.ones c.low.result c.sign_bits.result c.low-2.result c.bits-width.result c.formed.result
    c.formed.ensures c.low.ensures.value c.sign_bits.ensures.value c.low-2.ensures.value c.bits-width.ensures.value
