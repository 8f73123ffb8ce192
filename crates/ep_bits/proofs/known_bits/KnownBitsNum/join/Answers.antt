use Rattle.std.proofs.Common.{refl}
use Rattle.ep_bit_domain.specs.KnownBits.{join_of}
use Rattle.ep_bit_domain.proofs.Formed.{same_pattern}
use Rattle.ep_bits.proofs.Machine.{seen}
use Rattle.ep_bits.proofs.known_bits.KnownBitsNum.join.Goals as goal

pub invariant_of-result : goal.invariant_of-result
invariant_of-result c = ((join_of (seen c.self.inside) (seen c.o.inside)).valid, tt)

pub returns : goal.returns
returns c = rw (← c.self.view_is, ← c.o.view_is) (same_pattern _ (join_of (seen c.self.inside) (seen c.o.inside)) refl)
