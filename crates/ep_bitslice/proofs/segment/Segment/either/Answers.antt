use Rattle.ep_bitslice.proofs.Cuts.{fixed_fixed, fixed_run, run_fixed, run_run}
use Rattle.ep_bitslice.proofs.segment.Segment.either.Goals as goal

pub returns-in-Fixed-other-clause-none : goal.returns-in-Fixed-other-clause-none
returns-in-Fixed-other-clause-none c = (fixed_fixed _ _ _ _ _ _ _ c.in-Fixed.is c.in-Fixed-other.is c.requires.width c.requires.segment c.requires.other c.either_fixed.ensures).none

pub returns-in-Fixed-other-clause-disjoint : goal.returns-in-Fixed-other-clause-disjoint
returns-in-Fixed-other-clause-disjoint c = (fixed_fixed _ _ _ _ _ _ _ c.in-Fixed.is c.in-Fixed-other.is c.requires.width c.requires.segment c.requires.other c.either_fixed.ensures).disjoint

pub returns-in-Fixed-other-clause-segment : goal.returns-in-Fixed-other-clause-segment
returns-in-Fixed-other-clause-segment c = (fixed_fixed _ _ _ _ _ _ _ c.in-Fixed.is c.in-Fixed-other.is c.requires.width c.requires.segment c.requires.other c.either_fixed.ensures).segment

pub returns-in-Fixed-other-clause-width : goal.returns-in-Fixed-other-clause-width
returns-in-Fixed-other-clause-width c = (fixed_fixed _ _ _ _ _ _ _ c.in-Fixed.is c.in-Fixed-other.is c.requires.width c.requires.segment c.requires.other c.either_fixed.ensures).width

pub returns-in-Fixed-other-clause-bits : goal.returns-in-Fixed-other-clause-bits
returns-in-Fixed-other-clause-bits c = (fixed_fixed _ _ _ _ _ _ _ c.in-Fixed.is c.in-Fixed-other.is c.requires.width c.requires.segment c.requires.other c.either_fixed.ensures).bits_are

pub returns-in-Bits-other-clause-none : goal.returns-in-Bits-other-clause-none
returns-in-Bits-other-clause-none c = (fixed_run _ _ _ _ _ _ _ _ c.in-Fixed.is c.in-Bits-other.is c.requires.width c.requires.segment c.requires.other c.if_zero.ensures).none

pub returns-in-Bits-other-clause-disjoint : goal.returns-in-Bits-other-clause-disjoint
returns-in-Bits-other-clause-disjoint c = (fixed_run _ _ _ _ _ _ _ _ c.in-Fixed.is c.in-Bits-other.is c.requires.width c.requires.segment c.requires.other c.if_zero.ensures).disjoint

pub returns-in-Bits-other-clause-segment : goal.returns-in-Bits-other-clause-segment
returns-in-Bits-other-clause-segment c = (fixed_run _ _ _ _ _ _ _ _ c.in-Fixed.is c.in-Bits-other.is c.requires.width c.requires.segment c.requires.other c.if_zero.ensures).segment

pub returns-in-Bits-other-clause-width : goal.returns-in-Bits-other-clause-width
returns-in-Bits-other-clause-width c = (fixed_run _ _ _ _ _ _ _ _ c.in-Fixed.is c.in-Bits-other.is c.requires.width c.requires.segment c.requires.other c.if_zero.ensures).width

pub returns-in-Bits-other-clause-bits : goal.returns-in-Bits-other-clause-bits
returns-in-Bits-other-clause-bits c = (fixed_run _ _ _ _ _ _ _ _ c.in-Fixed.is c.in-Bits-other.is c.requires.width c.requires.segment c.requires.other c.if_zero.ensures).bits_are

pub returns-in-Fixed-other-2-clause-none : goal.returns-in-Fixed-other-2-clause-none
returns-in-Fixed-other-2-clause-none c = (run_fixed _ _ _ _ _ _ _ _ c.in-Bits.is c.in-Fixed-other-2.is c.requires.width c.requires.segment c.requires.other c.if_zero-in-Fixed-other-2.ensures).none

pub returns-in-Fixed-other-2-clause-disjoint : goal.returns-in-Fixed-other-2-clause-disjoint
returns-in-Fixed-other-2-clause-disjoint c = (run_fixed _ _ _ _ _ _ _ _ c.in-Bits.is c.in-Fixed-other-2.is c.requires.width c.requires.segment c.requires.other c.if_zero-in-Fixed-other-2.ensures).disjoint

pub returns-in-Fixed-other-2-clause-segment : goal.returns-in-Fixed-other-2-clause-segment
returns-in-Fixed-other-2-clause-segment c = (run_fixed _ _ _ _ _ _ _ _ c.in-Bits.is c.in-Fixed-other-2.is c.requires.width c.requires.segment c.requires.other c.if_zero-in-Fixed-other-2.ensures).segment

pub returns-in-Fixed-other-2-clause-width : goal.returns-in-Fixed-other-2-clause-width
returns-in-Fixed-other-2-clause-width c = (run_fixed _ _ _ _ _ _ _ _ c.in-Bits.is c.in-Fixed-other-2.is c.requires.width c.requires.segment c.requires.other c.if_zero-in-Fixed-other-2.ensures).width

pub returns-in-Fixed-other-2-clause-bits : goal.returns-in-Fixed-other-2-clause-bits
returns-in-Fixed-other-2-clause-bits c = (run_fixed _ _ _ _ _ _ _ _ c.in-Bits.is c.in-Fixed-other-2.is c.requires.width c.requires.segment c.requires.other c.if_zero-in-Fixed-other-2.ensures).bits_are

pub returns-in-Bits-other-2-clause-none : goal.returns-in-Bits-other-2-clause-none
returns-in-Bits-other-2-clause-none c = (run_run _ _ _ _ _ _ _ _ c.in-Bits.is c.in-Bits-other-2.is c.requires.width c.requires.segment).none
