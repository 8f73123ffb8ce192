use Rattle.std.proofs.Common.{[], arith}
use Rattle.ep_typing.specs.Env.{look_up_tag}
use Rattle.ep_scopes.specs.View.{stacked}
use Rattle.ep_scopes.proofs.ScopeLemmas.{has_tag, lacks_tag}
use Rattle.ep_scopes.proofs.scopes.look_up_tag.Goals as goal

pub returns-in-Some : goal.returns-in-Some
returns-in-Some c =
    has_tag c.args.tag.now c.args.scopes.now c.outward.left c.index-scopes-left.result c.outward-test.true
    c.outward.invariant.within c.index-scopes-left.is (look_up_tag c.args.tag.now (stacked [] c.args.scopes.now)) c.in-Some.number
    c.in-Some.ensures c.outward.invariant.same

pub outward-preserved : goal.outward-preserved
outward-preserved c = record {
  within = omega (arith, c.outward.invariant.within);
  same =
      lacks_tag c.args.tag.now c.args.scopes.now c.outward.left c.index-scopes-left.result c.outward-test.true
      c.outward.invariant.within c.index-scopes-left.is (look_up_tag c.args.tag.now (stacked [] c.args.scopes.now))
      c.in_default.ensures c.outward.invariant.same;
}
