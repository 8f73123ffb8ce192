use Rattle.std.proofs.Common.{◌∙◌}
use Rattle.ep_bitslice.proofs.Cuts.{run_mentioned, fixed_mentioned}
use Rattle.ep_bitslice.proofs.segment.Segment.mentions.Goals as goal

pub returns-in-Bits : goal.returns-in-Bits
returns-in-Bits c = c.is_same_cell.ensures ∙ run_mentioned _ _ _ _ _ c.in-Bits.is c.requires

pub returns-in-Fixed : goal.returns-in-Fixed
returns-in-Fixed c = fixed_mentioned _ _ _ _ c.in-Fixed.is
