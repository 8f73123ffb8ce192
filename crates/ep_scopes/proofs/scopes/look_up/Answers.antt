use Rattle.std.proofs.Common.{[], arith}
use Rattle.ep_typing.specs.Env.{look_up}
use Rattle.ep_scopes.specs.View.{meaning, stacked}
use Rattle.ep_scopes.proofs.ScopeLemmas.{has_it, lacks_it}
use Rattle.ep_scopes.proofs.scopes.look_up.Goals as goal

pub returns-in-Some : goal.returns-in-Some
returns-in-Some c =
    has_it c.args.name.now c.args.scopes.now c.outward.left c.index-scopes-left.result c.outward-test.true
    c.outward.invariant.within c.index-scopes-left.is (look_up c.args.name.now (stacked [] c.args.scopes.now)) (meaning c.in-Some.meaning)
    c.in-Some.ensures c.outward.invariant.same

pub outward-preserved : goal.outward-preserved
outward-preserved c = record {
  within = omega (arith, c.outward.invariant.within);
  same =
      lacks_it c.args.name.now c.args.scopes.now c.outward.left c.index-scopes-left.result c.outward-test.true
      c.outward.invariant.within c.index-scopes-left.is (look_up c.args.name.now (stacked [] c.args.scopes.now))
      c.in_default.ensures c.outward.invariant.same;
}
