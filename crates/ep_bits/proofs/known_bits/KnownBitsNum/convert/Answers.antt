use Rattle.std.proofs.Common.{sym, subst}
use Rattle.ep_bit_domain.specs.Exact.{KnowsExactly, IsConverted}
use Rattle.ep_bit_domain.proofs.Exact.{conversion_exact}
use Rattle.ep_bits.proofs.known_bits.KnownBitsNum.convert.Goals as goal

pub returns-clause-exact : goal.returns-clause-exact
returns-clause-exact c = λ s. let a = c.args in subst (KnowsExactly (IsConverted a.t a.self.now))
    (sym c.converted.ensures) (conversion_exact a.t a.self.now s)
