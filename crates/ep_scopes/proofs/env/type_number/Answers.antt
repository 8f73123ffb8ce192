use Rattle.std.proofs.Common.{◌-◌, ◌+◌, arith}
use Rattle.ep_scopes.proofs.KnownLemmas.{no_stars, one_star}
use Rattle.ep_scopes.proofs.env.type_number.Goals as goal

pub loop-i-preserved : goal.loop-i-preserved
loop-i-preserved c =
    one_star c.args.types.now c.loop-i.number c.known_number-number.result (c.deepest-behind.result.stars - c.loop-i.i) (c.deepest-behind.result.stars - (c.loop-i.i + 1)) _
    (omega (arith, c.loop-i-test.true)) c.known_number-number.ensures c.loop-i.invariant

pub returns : goal.returns
returns c = no_stars c.args.types.now c.loop-i.number (c.deepest-behind.result.stars - c.loop-i.i) _ (omega (arith, c.loop-i-test.false)) c.loop-i.invariant
