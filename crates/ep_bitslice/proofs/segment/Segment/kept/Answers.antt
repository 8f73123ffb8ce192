use Rattle.std.proofs.Common.{◌≤◌, ◌<◌, ◌^◌, arith}
use Rattle.std.specs.Int.{w64, trailing_zeros, trailing_ones}
use Rattle.std.proofs.lemmas.Nat.{pow_pos}
use Rattle.ep_bitslice.specs.Segments.{segment_width}
use Rattle.ep_bitslice.proofs.Pieces.{some_zeros, some_ones}
use Rattle.ep_bitslice.proofs.Cuts.{kept_bits, cleared_bits, width_at_most, width_positive}
use Rattle.ep_bitslice.proofs.segment.Segment.kept.Goals as goal

pub first-requires-clause-some : goal.first-requires-clause-some
first-requires-clause-some c =
    let m : c.args.m < 2 ^ 64 = omega arith in
    let t : 0 < trailing_ones w64 c.args.m = some_ones c.args.m m c.if-m-eq1.true in
    omega (arith, t, width_positive c.args.self.now c.requires)

pub returns-then-m-eq1-clause-bits : goal.returns-then-m-eq1-clause-bits
returns-then-m-eq1-clause-bits c =
    let m : c.args.m < 2 ^ 64 = omega arith in
    let w : c.min.result ≤ segment_width c.args.self.now = omega arith in
    let t : c.min.result ≤ trailing_ones w64 c.args.m = omega arith in
    kept_bits c.args.self.now c.first.result c.args.m c.min.result c.requires m w t c.first.ensures.width c.first.ensures.bits

pub returns-else-m-eq1-clause-segment : goal.returns-else-m-eq1-clause-segment
returns-else-m-eq1-clause-segment c =
    let m : c.args.m < 2 ^ 64 = omega arith in
    let t : 0 < trailing_zeros w64 c.args.m = some_zeros c.args.m m c.if-m-eq1.false in
    (omega (arith, t, width_positive c.args.self.now c.requires), omega (arith, width_at_most c.args.self.now c.requires), pow_pos c.min-else-m-eq1.result)

pub returns-else-m-eq1-clause-bits : goal.returns-else-m-eq1-clause-bits
returns-else-m-eq1-clause-bits c =
    let m : c.args.m < 2 ^ 64 = omega arith in
    let w : c.min-else-m-eq1.result ≤ segment_width c.args.self.now = omega arith in
    let t : c.min-else-m-eq1.result ≤ trailing_zeros w64 c.args.m = omega arith in
    cleared_bits c.args.self.now c.args.m c.min-else-m-eq1.result m w t
