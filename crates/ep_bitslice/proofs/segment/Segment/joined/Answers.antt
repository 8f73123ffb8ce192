use Rattle.std.proofs.Common.{arith}
use Rattle.ep_bitslice.proofs.Cuts.{fixed_joined, joined_is}
use Rattle.ep_bitslice.proofs.segment.Segment.joined.Goals as goal

pub overflow_add-result : goal.overflow_add-result
overflow_add-result c =
    let f = fixed_joined _ _ _ _ _ _ c.in-Fixed.is c.in-Fixed-next.is c.requires.segment c.requires.next c.requires.short in
    rw f.0 (omega (arith, f.1))

pub returns-in-Fixed-next : goal.returns-in-Fixed-next
returns-in-Fixed-next c =
    let f = fixed_joined _ _ _ _ _ _ c.in-Fixed.is c.in-Fixed-next.is c.requires.segment c.requires.next c.requires.short in
    joined_is _ _ _ _ _ _ _ c.in-Fixed.is c.in-Fixed-next.is f.0
