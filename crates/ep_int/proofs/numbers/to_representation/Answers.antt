use Rattle.std.specs.Int.{w128}
use Rattle.std.proofs.lemmas.Int.{to_z-of_z}
use Rattle.ep_int.proofs.Wrapping.{masked_representation}
use Rattle.ep_int.proofs.numbers.to_representation.Goals as goal

pub returns-clause-value : goal.returns-clause-value
returns-clause-value c =
    rw (c.cast_unsigned.ensures, c.mask.ensures, to_z-of_z w128 c.args.v c.ranges.v) (masked_representation c.args.t c.args.v c.ranges.v)
