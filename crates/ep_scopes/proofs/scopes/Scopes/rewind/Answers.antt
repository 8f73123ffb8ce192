use Rattle.ep_scopes.proofs.ScopeLemmas.{with_last_cut}
use Rattle.ep_scopes.proofs.scopes.Scopes.rewind.Goals as goal

pub returns-in_ok-push-in-Some : goal.returns-in_ok-push-in-Some
returns-in_ok-push-in-Some c =
    with_last_cut _ _ _ _ _ _ _ c.in-Some.ensures.items c.in_ok-push-in-Some.ensures.items c.cut.ensures
