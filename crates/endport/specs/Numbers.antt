-- What a report says of numbers: the ends of the range that they lie in, and their remainder by a modulus.
use Rattle.ep_domain.specs.Common.{sum_of_ranks}
use Rattle.ep_domain.specs.Domain.{Ops}
use Rattle.ep_domain.specs.PairDomain.{pair_ops}
use Rattle.ep_domain.specs.declared.num.Num.{Ghosts}
use Rattle.ep_domain.specs.declared.pair.Pair.{Pair}
use Rattle.ep_cert_cells.specs.Numbers.{Numbers}
use Rattle.ep_intervals.specs.contracts.interval.IntervalNum.TheImpl as intervals
use Rattle.ep_congruence.specs.contracts.congruence.CongruenceNum.TheImpl as congruences
use Rattle.ep_bit_domain.specs.KnownBits.{KnownBits}
use Rattle.ep_bits.specs.contracts.known_bits.KnownBitsNum.TheImpl as known_bits

abbrev pub numbers : Ops Numbers
numbers = pair_ops {f = intervals.ghosts} {g = congruences.ghosts}

-- the domain of these numbers, as the part of another
abbrev pub number_domain : Ghosts Numbers
number_domain = record {
  ops = numbers;
  HEIGHT = sum_of_ranks intervals.ghosts.HEIGHT congruences.ghosts.HEIGHT;
}

-- with the bits that are known of them too
abbrev pub BitNumbers : Type 0
BitNumbers = Pair Numbers KnownBits number_domain known_bits.ghosts

abbrev pub bit_numbers : Ops BitNumbers
bit_numbers = pair_ops {f = number_domain} {g = known_bits.ghosts}
