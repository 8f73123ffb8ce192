use Rattle.std.proofs.Common.{arith}
use Rattle.std.proofs.lemmas.Int.{ints}
use Rattle.ep_congruence_laws.proofs.Operations.{remainder_bounds}
use Rattle.ep_congruence.proofs.congruence.Congruence.remainder.Goals as goal

pub returns-clause-low : goal.returns-clause-low
returns-clause-low c = let b = (remainder_bounds c.self.inside.remainder c.self.inside.modulus c.self.inside.valid).0 in omega (arith, ints)

pub returns-clause-high : goal.returns-clause-high
returns-clause-high c = let b = (remainder_bounds c.self.inside.remainder c.self.inside.modulus c.self.inside.valid).1 in omega (arith, ints)
