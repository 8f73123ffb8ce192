use Rattle.std.proofs.Common.{arith}
use Rattle.std.proofs.lemmas.Int.{ints}
use Rattle.ep_congruence_laws.proofs.Classes.{class_small}
use Rattle.ep_congruence.proofs.Machine.{seen}
use Rattle.ep_congruence.proofs.congruence.Congruence.modulus.Goals as goal

pub overflow_cast-result : goal.overflow_cast-result
overflow_cast-result c = let b = class_small c.self.inside.remainder c.self.inside.modulus c.self.inside.valid in omega (arith, ints)

pub returns-clause-value : goal.returns-clause-value
returns-clause-value c =
    let a = seen c.self.inside in
    let b = class_small a.remainder a.modulus a.valid in
    rw (← c.self.view_is) omega (arith, ints)

pub returns-clause-high : goal.returns-clause-high
returns-clause-high c = let b = class_small c.self.inside.remainder c.self.inside.modulus c.self.inside.valid in omega (arith, ints)
