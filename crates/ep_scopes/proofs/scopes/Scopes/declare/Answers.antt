use Rattle.std.proofs.Common.{◌∙◌, sym, ap}
use Rattle.ep_typing.specs.Env.{Scope, entry}
use Rattle.ep_scopes.proofs.ScopeLemmas.{is_last, with_last_name}
use Rattle.ep_scopes.proofs.scopes.Scopes.declare.Goals as goal

pub add_name-requires : goal.add_name-requires
add_name-requires c = sym (ap (λ (s : Scope). entry c.args.name.now s.names) (is_last _ _ _ c.in-Some.ensures.items)) ∙ c.requires

pub returns-in_ok-push-in-Some : goal.returns-in_ok-push-in-Some
returns-in_ok-push-in-Some c =
    with_last_name _ _ _ c.in-Some.ensures.items _ _ _ _ c.in_ok-push-in-Some.ensures.items c.in_ok-add_name-in-Some.ensures.names c.in_ok-add_name-in-Some.ensures.tags
