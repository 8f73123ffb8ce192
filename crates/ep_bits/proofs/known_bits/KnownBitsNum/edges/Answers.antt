use Rattle.std.proofs.Common.{subst, sym}
use Rattle.std.proofs.lemmas.Int.{to_z-of_z}
use Rattle.ep_bit_domain.specs.Exact.{IsEdges}
use Rattle.ep_bit_domain.proofs.Members.{edges_exact}
use Rattle.ep_bits.proofs.known_bits.KnownBitsNum.edges.Goals as goal

pub returns-clause-members : goal.returns-clause-members
returns-clause-members c =
    let a = c.args in
    let f = c.ranges.lo in let g = c.ranges.hi in
    let e = simp to_z-of_z at c.edges_of.ensures in
    subst (IsEdges a.self.now a.lo a.hi) (sym e) (edges_exact a.self.now a.lo a.hi)
