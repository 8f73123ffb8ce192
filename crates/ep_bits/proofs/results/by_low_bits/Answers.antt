use Rattle.ep_bit_domain.specs.KnownBits.{pattern_of}
use Rattle.ep_bits.proofs.Machine.{by_low_code}
use Rattle.ep_bits.proofs.results.by_low_bits.Goals as goal

pub returns : goal.returns
returns c =
    let a = c.args in
    by_low_code a.op a.t (pattern_of a.x.now)
    (pattern_of a.y.now) c.low_known-n.result c.low_result.result c.with_low.result c.with_low.ensures
    c.low_known-n.ensures.value c.low_result.ensures.value
