use Rattle.ep_scopes.proofs.ScopeLemmas.{cut_is}
use Rattle.ep_scopes.proofs.scopes.Scope.cut.Goals as goal

pub returns : goal.returns
returns c = cut_is c.args.self.now c.args.mark.names c.args.mark.tags _ _ c.truncate.ensures.entries c.truncate-2.ensures.entries
