use Rattle.std.proofs.Common.{arith}
use Rattle.ep_shared_parts.specs.Spread.{outlines}
use Rattle.ep_shared_parts.specs.Mentions.{number_of}
use Rattle.ep_shared_parts.proofs.Spreading.{parts_to_le, outlines_as_many}
use Rattle.ep_cell_steps.proofs.putting.place_for.Goals as goal

pub returns-clause-within : goal.returns-clause-within
returns-clause-within g c =
    omega (arith, parts_to_le c.args.k (outlines number_of c.args.parts.now), outlines_as_many number_of c.args.parts.now, c.parts_to.ensures, c.requires.some)
