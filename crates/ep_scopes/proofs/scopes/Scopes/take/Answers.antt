use Rattle.std.proofs.Common.{sym}
use Rattle.ep_scopes.proofs.ScopeLemmas.{is_last, without_last}
use Rattle.ep_scopes.proofs.scopes.Scopes.take.Goals as goal

pub returns-in-Some-clause-taken : goal.returns-in-Some-clause-taken
returns-in-Some-clause-taken c = sym (is_last _ _ _ c.in-Some.ensures.items)

pub returns-in-Some-clause-left : goal.returns-in-Some-clause-left
returns-in-Some-clause-left c = without_last _ _ _ c.in-Some.ensures.items
