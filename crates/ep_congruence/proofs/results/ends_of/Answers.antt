use Rattle.std.proofs.Common.{FitsSigned, sym, subst, rules}
use Rattle.std.specs.Int.{w128}
use Rattle.std.proofs.lemmas.Int.{to_z-of_z}
use Rattle.ep_int.specs.Arith.{IsOfSomeType}
use Rattle.ep_congruence.proofs.Machine.{ends_number, least_number, greatest_number}
use Rattle.ep_congruence.proofs.results.ends_of.Goals as goal

pub returns-else-is_one-clause-low : goal.returns-else-is_one-clause-low
returns-else-is_one-clause-low c =
    let f : FitsSigned w128 c.least-else-is_one.result = search rules in
    let g : FitsSigned w128 c.greatest-else-is_one.result = search rules in
    let e = simp to_z-of_z at c.unwrap_or.ensures in
    (ends_number c.edges_of.result c.unwrap_or.result (c.least-else-is_one.result, c.greatest-else-is_one.result) c.edges_of.ensures.numbers e
    (subst IsOfSomeType (sym c.least-else-is_one.ensures) (least_number c.args.t)) (subst IsOfSomeType (sym c.greatest-else-is_one.ensures) (greatest_number c.args.t))).0

pub returns-else-is_one-clause-high : goal.returns-else-is_one-clause-high
returns-else-is_one-clause-high c =
    let f : FitsSigned w128 c.least-else-is_one.result = search rules in
    let g : FitsSigned w128 c.greatest-else-is_one.result = search rules in
    let e = simp to_z-of_z at c.unwrap_or.ensures in
    (ends_number c.edges_of.result c.unwrap_or.result (c.least-else-is_one.result, c.greatest-else-is_one.result) c.edges_of.ensures.numbers e
    (subst IsOfSomeType (sym c.least-else-is_one.ensures) (least_number c.args.t)) (subst IsOfSomeType (sym c.greatest-else-is_one.ensures) (greatest_number c.args.t))).1
