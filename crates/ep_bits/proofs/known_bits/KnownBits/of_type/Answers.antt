use Rattle.std.proofs.Common.{refl}
use Rattle.ep_bit_domain.specs.KnownBits.{top_of}
use Rattle.ep_bit_domain.proofs.Formed.{same_pattern}
use Rattle.ep_bits.proofs.Machine.{both_masks}
use Rattle.ep_bits.proofs.known_bits.KnownBits.of_type.Goals as goal

pub returns : goal.returns
returns c = same_pattern _ (top_of c.args.t) (both_masks _ _ _ _ c.zeros_of_type.ensures.value refl)
