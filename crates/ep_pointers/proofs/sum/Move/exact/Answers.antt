use Rattle.std.proofs.Common.{rules, FitsSigned, to_z-of_z}
use Rattle.std.specs.Int.{w128}
use Rattle.ep_pointers.proofs.Exact.{ends}
use Rattle.ep_pointers.proofs.sum.Move.exact.Goals as goal

pub exact_at-requires-then-self-clause-offset : goal.exact_at-requires-then-self-clause-offset
exact_at-requires-then-self-clause-offset g c =
    let f : FitsSigned w128 c.range-low.result.1 = search rules in
    simp to_z-of_z (ends c.range-low.result _ c.range-low.ensures (g.met.N.Num.laws.range_ends c.args.offset.now)).high

pub exact_at-requires-then-self-clause-count : goal.exact_at-requires-then-self-clause-count
exact_at-requires-then-self-clause-count g c =
    let f : FitsSigned w128 c.range-least.result.0 = search rules in
    simp to_z-of_z (ends c.range-least.result _ c.range-least.ensures (g.met.N.Num.laws.range_ends
    c.args.self.now.delta)).low

pub exact_at-requires-else-self-2-clause-offset : goal.exact_at-requires-else-self-2-clause-offset
exact_at-requires-else-self-2-clause-offset g c =
    let f : FitsSigned w128 c.range-low.result.1 = search rules in
    simp to_z-of_z (ends c.range-low.result _ c.range-low.ensures (g.met.N.Num.laws.range_ends c.args.offset.now)).high

pub exact_at-requires-else-self-2-clause-count : goal.exact_at-requires-else-self-2-clause-count
exact_at-requires-else-self-2-clause-count g c =
    let f : FitsSigned w128 c.range-least.result.1 = search rules in
    simp to_z-of_z (ends c.range-least.result _ c.range-least.ensures (g.met.N.Num.laws.range_ends
    c.args.self.now.delta)).high
