use Rattle.std.proofs.Common.{◌≤◌, arith}
use Rattle.ep_bitslice.specs.Segments.{segment_width}
use Rattle.ep_bitslice.proofs.Cuts.{first_run, first_fixed, first_fixed_bits, width_at_most}
use Rattle.ep_bitslice.proofs.segment.Segment.first.Goals as goal

pub returns-in-Bits-clause-bits : goal.returns-in-Bits-clause-bits
returns-in-Bits-clause-bits c = first_run _ _ _ _ _ c.in-Bits.is c.requires.within

pub returns-in-Fixed-clause-segment : goal.returns-in-Fixed-clause-segment
returns-in-Fixed-clause-segment c =
    let w : segment_width c.args.self.now ≤ 64 = width_at_most _ c.requires.segment in
    first_fixed _ _ c.requires.some (omega (arith, w, c.requires.within))

pub returns-in-Fixed-clause-bits : goal.returns-in-Fixed-clause-bits
returns-in-Fixed-clause-bits c = first_fixed_bits _ _ _ _ c.in-Fixed.is c.requires.segment c.requires.within
