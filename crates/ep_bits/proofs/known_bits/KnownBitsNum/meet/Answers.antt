use Rattle.std.proofs.Common.{subst, sym}
use Rattle.ep_bit_domain.specs.Exact.{IsCommon}
use Rattle.ep_bit_domain.proofs.Members.{meet_exact}
use Rattle.ep_bits.proofs.known_bits.KnownBitsNum.meet.Goals as goal

pub returns-clause-common : goal.returns-clause-common
returns-clause-common c = let a = c.args in subst (IsCommon a.self.now a.o.now) (sym c.met.ensures)
    (meet_exact a.self.now a.o.now)
