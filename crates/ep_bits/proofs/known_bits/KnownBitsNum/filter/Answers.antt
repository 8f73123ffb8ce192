use Rattle.std.proofs.Common.{◌↔◌, IsSome, subst, sym}
use Rattle.ep_bit_domain.specs.KnownBits.{range_of}
use Rattle.ep_bit_domain.specs.Exact.{SomeCompare}
use Rattle.ep_bit_domain.proofs.Members.{filter_exact}
use Rattle.ep_bits.proofs.known_bits.KnownBitsNum.filter.Goals as goal

pub returns-clause-some : goal.returns-clause-some
returns-clause-some c = λ n. let a = c.args in subst
    (λ o. IsSome o ↔ SomeCompare a.c (range_of a.x.now) (range_of a.y.now)) (sym c.filtered.ensures)
    (filter_exact a.c a.x.now a.y.now n)
