use Rattle.std.proofs.Common.{sym, ap, ◌∙◌, of_z, arith}
use Rattle.std.specs.Int.{w128}
use Rattle.std.proofs.lemmas.Int.{ints, to_z-of_z}
use Rattle.ep_bits.proofs.Machine.{edges_number, cut_itself}
use Rattle.ep_bits.proofs.known_bits.KnownBits.cut_of.Goals as goal

pub exactly-requires : goal.exactly-requires
exactly-requires c =
    let f = c.ranges.lo in let g = c.ranges.hi in
    let e = simp to_z-of_z at c.edges_of.ensures in
    let n = edges_number c.args.self.now c.args.lo c.args.hi _ (sym e ∙ c.in_ok-first.was) in
    let p = n.low in let q = n.high in record { low = omega (arith, ints); high = omega (arith, ints) }

pub returns-else-first-last : goal.returns-else-first-last
returns-else-first-last c =
    let f = c.ranges.lo in let g = c.ranges.hi in
    let e = simp to_z-of_z at c.edges_of.ensures in
    cut_itself c.args.self.now c.args.lo c.args.hi c.in_ok-first.first c.in_ok-first.last (sym e ∙ c.in_ok-first.was)
    (λ q. c.if-first-last.false (ap (of_z w128) q))
