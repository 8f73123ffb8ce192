use Rattle.std.specs.Int.{w128}
use Rattle.std.proofs.lemmas.Int.{to_z-of_z}
use Rattle.ep_congruence_domain.proofs.Formed.{formed_code}
use Rattle.ep_congruence.proofs.congruence.Congruence.formed.Goals as goal

pub returns-then-is_class : goal.returns-then-is_class
returns-then-is_class c = formed_code c.args.remainder _ c.args.modulus _ (to_z-of_z w128 c.args.remainder c.ranges.remainder)
