use Rattle.std.proofs.Common.{◌∙◌, sym, ap}
use Rattle.ep_typing.specs.Env.{Scope, entry}
use Rattle.ep_scopes.proofs.ScopeLemmas.{is_last, with_last_tag}
use Rattle.ep_scopes.proofs.scopes.Scopes.declare_tag.Goals as goal

pub add_tag-requires : goal.add_tag-requires
add_tag-requires c = sym (ap (λ (s : Scope). entry c.args.tag.now s.tags) (is_last _ _ _ c.in-Some.ensures.items)) ∙ c.requires

pub returns-in_ok-push-in-Some : goal.returns-in_ok-push-in-Some
returns-in_ok-push-in-Some c =
    with_last_tag _ _ _ c.in-Some.ensures.items _ _ _ _ c.in_ok-push-in-Some.ensures.items c.in_ok-add_tag-in-Some.ensures.tags c.in_ok-add_tag-in-Some.ensures.names
