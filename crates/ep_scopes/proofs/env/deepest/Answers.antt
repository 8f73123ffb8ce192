use Rattle.std.proofs.Common.{◌≤◌, sym, arith}
use Rattle.ep_scopes.proofs.PointerLemmas.{grown_from, numbered_from}
use Rattle.ep_scopes.proofs.env.deepest.Goals as goal

pub returns-in-Some-clause-grown : goal.returns-in-Some-clause-grown
returns-in-Some-clause-grown c =
    let few : c.min-known.result ≤ c.args.stars = omega (arith, c.min-known.ensures) in
    grown_from c.args.types.now c.args.row c.in-Some.deep c.min-known.result c.args.stars few (sym c.in-Some.ensures.row)

pub returns-in-Some-clause-number : goal.returns-in-Some-clause-number
returns-in-Some-clause-number c =
    let few : c.min-known.result ≤ c.args.stars = omega (arith, c.min-known.ensures) in
    numbered_from c.args.types.now c.args.row c.in-Some.deep c.min-known.result c.args.stars few (sym c.in-Some.ensures.row)
