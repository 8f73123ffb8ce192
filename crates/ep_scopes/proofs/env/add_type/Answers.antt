use Rattle.std.proofs.Common.{◌-◌, ◌+◌, arith}
use Rattle.ep_scopes.proofs.KnownLemmas.{no_pointers, one_pointer}
use Rattle.ep_scopes.proofs.env.add_type.Goals as goal

pub loop-i-preserved : goal.loop-i-preserved
loop-i-preserved c = record {
  inside = c.in_ok-number.ensures.inside;
  means = one_pointer c.loop-i.types c.add_row.new.types c.loop-i.number c.in_ok-number.number (c.deepest-behind.result.stars - c.loop-i.i) (c.deepest-behind.result.stars - (c.loop-i.i + 1)) _
      (omega (arith, c.loop-i-test.true)) c.in_ok-number.ensures.grown c.in_ok-number.ensures.number c.loop-i.invariant.means;
}

pub returns : goal.returns
returns c = no_pointers c.loop-i.types c.loop-i.number (c.deepest-behind.result.stars - c.loop-i.i) _ (omega (arith, c.loop-i-test.false)) c.loop-i.invariant.means
