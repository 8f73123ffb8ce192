use Rattle.std.proofs.Common.{◌∷◌, ap, ◌∙◌}
use Rattle.ep_typing.specs.Env.{Scope}
use Rattle.ep_scopes.specs.View.{scopes}
use Rattle.ep_scopes.proofs.ScopeLemmas.{pushed}
use Rattle.ep_scopes.proofs.scopes.Scopes.enter.Goals as goal

pub returns : goal.returns
returns c = pushed _ _ _ c.in_ok-push.ensures.items ∙ ap (λ (s : Scope). s ∷ scopes c.args.self.now) c.new.ensures
