use Rattle.std.proofs.Common.{◌≡◌, ◌≤◌, [], length, take}
use Rattle.ep_typing.specs.Env.{look_up_tag}
use Rattle.ep_scopes.specs.View.{stacked}
use Rattle.ep_scopes.proofs.scopes.look_up_tag.Given as goal

abbrev pub invariant-outward : goal.invariant-outward
invariant-outward l = record {
  within : l.left ≤ length l.scopes;
  same : look_up_tag l.tag (stacked [] (take l.left l.scopes)) ≡ look_up_tag l.tag (stacked [] l.scopes);
}

abbrev pub decreases-outward : goal.decreases-outward
decreases-outward l = l.left
