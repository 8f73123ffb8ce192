use Rattle.ep_bitslice.proofs.Cuts.{after_run, after_fixed, after_fixed_bits}
use Rattle.ep_bitslice.proofs.segment.Segment.after.Goals as goal

pub returns-in-Bits-clause-bits : goal.returns-in-Bits-clause-bits
returns-in-Bits-clause-bits c = after_run _ _ _ _ _ c.in-Bits.is c.requires.within

pub returns-in-Fixed-clause-segment : goal.returns-in-Fixed-clause-segment
returns-in-Fixed-clause-segment c = after_fixed _ _ _ _ c.in-Fixed.is c.requires.segment c.requires.within

pub returns-in-Fixed-clause-bits : goal.returns-in-Fixed-clause-bits
returns-in-Fixed-clause-bits c = after_fixed_bits _ _ _ _ c.in-Fixed.is c.requires.within
