use Rattle.ep_scopes.proofs.ScopeLemmas.{pushed}
use Rattle.ep_scopes.proofs.scopes.Scopes.put.Goals as goal

pub returns : goal.returns
returns c = pushed _ _ _ c.in_ok-push.ensures.items
