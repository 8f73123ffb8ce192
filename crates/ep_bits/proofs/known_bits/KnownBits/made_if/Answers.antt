use Rattle.ep_bits.proofs.Machine.{made_code}
use Rattle.ep_bits.proofs.known_bits.KnownBits.made_if.Goals as goal

pub returns-then-is_pattern : goal.returns-then-is_pattern
returns-then-is_pattern c = made_code c.args.zeros c.args.ones _
