use Rattle.std.proofs.Common.{subst, sym}
use Rattle.ep_int.specs.declared.types.IntType.TheVariants.{I64, U64}
use Rattle.ep_int.specs.Types.{least_of, greatest_of}
use Rattle.ep_bit_domain.specs.Exact.{AreEdges}
use Rattle.ep_bit_domain.proofs.Members.{range_exact}
use Rattle.ep_bits.proofs.known_bits.KnownBitsNum.range.Goals as goal

pub returns-clause-ends : goal.returns-clause-ends
returns-clause-ends c = subst (AreEdges c.args.self.now (least_of I64) (greatest_of U64)) (sym c.range_of.ensures)
    (range_exact c.args.self.now)
