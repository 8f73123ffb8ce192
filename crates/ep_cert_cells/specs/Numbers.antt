-- What a certificate says of numbers: the ends of the range that they lie in, and their remainder by a modulus.
use Rattle.ep_domain.specs.declared.pair.Pair.{Pair}
use Rattle.ep_interval_laws.specs.Interval.{Interval}
use Rattle.ep_intervals.specs.contracts.interval.IntervalNum.TheImpl as intervals
use Rattle.ep_congruence_domain.specs.Congruence.{Congruence}
use Rattle.ep_congruence.specs.contracts.congruence.CongruenceNum.TheImpl as congruences

abbrev pub Numbers : Type 0
Numbers = Pair Interval Congruence intervals.ghosts congruences.ghosts
